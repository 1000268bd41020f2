use Rattle.std.proofs.Common.{◌≡◌, ℕ, ◌≤◌, length}
use Rattle.pi_guard.specs.Register.{register}
use Rattle.pi_guard.specs.Broad.{Owes}
use Rattle.pi_guard.proofs.vectors.after_long.Given as goal

-- some register stands for what was read, and with the rest leaves what the part leaves
abbrev pub invariant-loop-rest : goal.invariant-loop-rest
invariant-loop-rest l = (r : ℕ) × Owes r l.t × (register r l.rest ≡ register l.start l.part) × (256 ≤ length l.rest)

abbrev pub decreases-loop-rest : goal.decreases-loop-rest
decreases-loop-rest l = length l.rest
