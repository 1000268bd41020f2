use Rattle.std.proofs.Common.{◌≡◌, ℕ, ◌<◌, ◌≤◌, length}
use Rattle.std.specs.Vec.{vec_capacity}
use Rattle.stack_core.specs.Replies.{HoldsBad}
use Rattle.stack_core.specs.Rooms.{Suits, blocks_in}
use Rattle.stack_core.specs.Stacks.{room_at}
use Rattle.stack_core.proofs.start.rooms_of.Given as goal
use Rattle.stack_walk_laws.specs.Sheets.{op_in}

abbrev pub invariant-loop-op : goal.invariant-loop-op
invariant-loop-op l = record {
  count : length l.rooms.items ≡ l.op-index;
  room : length l.ops ≤ vec_capacity l.rooms;
  bad : (i : ℕ) → i < l.op-index → HoldsBad (blocks_in (op_in l.ops i)) (room_at l.rooms.items i);
  suits : (i : ℕ) → i < l.op-index → Suits (op_in l.ops i) (room_at l.rooms.items i);
}
