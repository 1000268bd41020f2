use Rattle.std.proofs.Common.{◌≡◌, is_some, length}
use Rattle.walk_laws.specs.ReadsAs.{listed_among}
use Rattle.run_words.proofs.lies.is_among.Given as goal

abbrev pub invariant-loop-block : goal.invariant-loop-block
invariant-loop-block l = is_some (listed_among l.rest l.k) ≡ is_some (listed_among l.blocks l.k)

abbrev pub decreases-loop-block : goal.decreases-loop-block
decreases-loop-block l = length l.rest
