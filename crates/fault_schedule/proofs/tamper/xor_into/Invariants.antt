use Rattle.std.proofs.Common.{ℕ, ◌≡◌, ◌<◌, length, get_or, take, bit_xor}
use Rattle.fault_schedule.specs.Altered.{byte_at}
use Rattle.fault_schedule.proofs.tamper.xor_into.Given as goal

abbrev pub invariant-loop-i : goal.invariant-loop-i
invariant-loop-i l = (k : ℕ) → k < length l.block → get_or l.block k 0 ≡ bit_xor (get_or l.initial.block k 0) (byte_at l.off (take l.i l.bytes) k)
