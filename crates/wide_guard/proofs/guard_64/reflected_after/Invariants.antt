use Rattle.std.proofs.Common.{◌≡◌, length}
use Rattle.wide_guard.specs.Registers.{rocksoft, register}
use Rattle.wide_guard.proofs.guard_64.reflected_after.Given as goal

abbrev pub invariant-loop-b : goal.invariant-loop-b
invariant-loop-b l = register rocksoft l.state l.rest ≡ register rocksoft l.start l.part

abbrev pub decreases-loop-b : goal.decreases-loop-b
decreases-loop-b l = length l.rest
