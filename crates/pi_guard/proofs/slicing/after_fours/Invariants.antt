use Rattle.std.proofs.Common.{◌≡◌, length}
use Rattle.pi_guard.specs.Register.{register}
use Rattle.pi_guard.proofs.slicing.after_fours.Given as goal

abbrev pub invariant-loop-b : goal.invariant-loop-b
invariant-loop-b l = register l.state l.rest ≡ register l.start l.part

abbrev pub decreases-loop-b : goal.decreases-loop-b
decreases-loop-b l = length l.rest
