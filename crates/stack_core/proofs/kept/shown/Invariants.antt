use Rattle.std.proofs.Common.{◌≡◌, ◌≤◌, length, take}
use Rattle.std.specs.Vec.{vec_capacity}
use Rattle.stack_core.proofs.kept.shown.Given as goal

abbrev pub invariant-loop-byte : goal.invariant-loop-byte
invariant-loop-byte l = record {
  bytes : l.held.items ≡ take l.byte-index l.bytes;
  room : length l.bytes ≤ vec_capacity l.held;
}
