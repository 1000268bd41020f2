use Rattle.std.proofs.Common.{arith}
use Rattle.std.proofs.lemmas.List.{drop_all}
use Rattle.run_words.proofs.Places.{all_sites}
use Rattle.run_words.proofs.guide.sites_from.Goals as goal

pub returns : goal.returns
returns c = all_sites c.loop-op.sites.items _ c.loop-op.rest.now _ (drop_all c.loop-op.op-index c.args.ops.now (omega (arith, c.loop-op-test.false))) c.loop-op.invariant
