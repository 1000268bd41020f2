use Rattle.std.proofs.Common.{◌≡◌, length}
use Rattle.page_pool.specs.Cuts.{past}
use Rattle.page_pool.proofs.walk.first_ahead.Given as goal

abbrev pub invariant-loop-first : goal.invariant-loop-first
invariant-loop-first l = past l.at l.segs ≡ past l.initial.at l.initial.segs

abbrev pub decreases-loop-first : goal.decreases-loop-first
decreases-loop-first l = length l.segs
