use Rattle.std.proofs.Common.{◌≡◌, ◌++◌, drop}
use Rattle.run_words.specs.Sites.{sites_from}
use Rattle.run_words.proofs.guide.sites_from.Given as goal

abbrev pub invariant-loop-op : goal.invariant-loop-op
invariant-loop-op l = l.sites.items ++ sites_from l.rest (drop l.op-index l.ops) ≡ sites_from l.lines l.ops
