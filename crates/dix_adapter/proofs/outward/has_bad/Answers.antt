use Rattle.std.proofs.Common.{ap, sym, ◌∙◌, get_or, arith}
use Rattle.std.specs.Prelude.{◌||◌}
use Rattle.bio_core.specs.declared.fate.Fate.TheVariants.{Good}
use Rattle.dix_adapter.specs.Carried.{fails}
use Rattle.dix_adapter.proofs.Judged.{fails-more, fails-there}
use Rattle.dix_adapter.proofs.outward.has_bad.Goals as goal

pub returns-then-is_bad : goal.returns-then-is_bad
returns-then-is_bad c = sym (fails-there c.args.fates.now c.loop-fate.fate-index Good (omega arith) (sym c.is_bad.ensures ∙ c.if-is_bad.true))

pub loop-fate-preserved : goal.loop-fate-preserved
loop-fate-preserved c = fails-more c.args.fates.now c.loop-fate.fate-index Good (omega arith) ∙ ap (λ z. z || fails (get_or c.args.fates.now c.loop-fate.fate-index Good)) c.loop-fate.invariant ∙ sym c.is_bad.ensures ∙ c.if-is_bad.false
