use Rattle.std.proofs.Common.{ℕ, ◌+◌, ◌^◌, ◌<◌, ◌≤◌, get_or}
use Rattle.volume_rows.proofs.stripes.end_in_64_bits.Given as goal

abbrev pub invariant-loop-leg : goal.invariant-loop-leg
invariant-loop-leg l = (i : ℕ) → i < l.leg-index → (get_or l.legs i (record { dev = 0; at = 0 })).at + l.len ≤ 2 ^ 64
