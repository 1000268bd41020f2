use Rattle.std.proofs.Common.{◌≡◌, ◌+◌, ◌<◌, ℕ, false, length, get_or, take}
use Rattle.std.specs.List.{list_any}
use Rattle.stack_walk_laws.specs.Shifts.{shifts}
use Rattle.stack_core.proofs.start.shifted_ops.Given as goal

abbrev pub invariant-loop-line : goal.invariant-loop-line
invariant-loop-line l = record {
  count : length l.shifted.items ≡ l.n;
  marked : (i : ℕ) → i < l.n → get_or l.shifted.items i false ≡ list_any (shifts (i + 1)) (take l.line-index l.faults);
}
