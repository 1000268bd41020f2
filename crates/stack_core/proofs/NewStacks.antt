-- A new stack follows the walk of its script, over any rig and over one that tells its blocks.
use Rattle.std.proofs.Common.{◌<◌, ℕ, length}
use Rattle.page_pool.specs.Pages.{AreWhole}
use Rattle.stack_laws.specs.View.{start}
use Rattle.stack_steps.specs.Does.{Holds}
use Rattle.stack_walk_laws.specs.Sheets.{op_in}
use Rattle.stack_core.specs.declared.stack.Stack.{Stack}
use Rattle.stack_core.specs.NewStacks.{FollowsAtFirst}
use Rattle.stack_core.specs.Rooms.{Suits}
use Rattle.stack_core.specs.Stacks.{IsStack, plan_in, room_at}
use Rattle.stack_core.proofs.WalkBegins.{falling_begins, told_begins, walk_begins}

pub follows-at-first : (s : Stack) → IsStack s → Holds (plan_in s.sheet) s.machine (start (plan_in s.sheet)) → AreWhole s.pool → ((i : ℕ) → i < length s.sheet.ops → Suits (op_in s.sheet.ops i) (room_at s.rooms.items i)) → FollowsAtFirst s
follows-at-first s k h whole suits = record {
  walks = λ m n opening st log o over sizes. walk_begins m n opening s st log k h whole suits o over sizes;
  falling = λ m n opening us armed st log o over sizes site behind armed_are blocks. falling_begins m n opening s us armed st log k h whole suits o over sizes site behind armed_are blocks;
  told = λ m n opening us armed st log o over sizes site behind armed_are blocks. told_begins m n opening s us armed st log k h whole suits o over sizes site behind armed_are blocks;
}
