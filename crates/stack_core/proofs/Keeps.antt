-- What a step leaves is a stack again.
use Rattle.std.proofs.Common.{◌≡◌, length, ◌∙◌, arith}
use Rattle.std.specs.Vec.{vec_capacity}
use Rattle.stack_steps.specs.Does.{Works}
use Rattle.stack_core.specs.declared.stack.Stack.{Stack}
use Rattle.stack_walk_laws.specs.Settling.{AreFates}
use Rattle.stack_core.specs.Stacks.{AreRooms, HoldsEach, IsStack, plan_in}
use Rattle.stack_core.proofs.Rooms.{rooms-stay}
use Rattle.stack_walk_laws.proofs.Wholes.{all_stay}

-- the fields that steps change, with what is asked of them
pub record Moved (s s₂ : Stack) : Type 0 where
  pub sheet : s₂.sheet ≡ s.sheet
  pub adapter : s₂.adapter ≡ s.adapter
  pub works : Works (plan_in s.sheet) s₂.machine
  pub pages : length s₂.pool ≡ length s.pool
  pub rooms : AreRooms s.pool s.sheet.ops s.sheet.ios.items s₂.rooms.items
  pub kept : AreFates s.sheet.ios.items s₂.kept.starts.items s₂.kept.held.items
  pub replies : length s₂.replies.items ≡ length s.replies.items
  pub group : vec_capacity s₂.group ≡ vec_capacity s.group
  pub fates : vec_capacity s₂.fates ≡ vec_capacity s.fates
  pub scratch : HoldsEach s.sheet.ios.items s.sheet.limits.max_blocks s₂.scratch

pub is-stack : (s s₂ : Stack) → IsStack s → Moved s s₂ → IsStack s₂
is-stack s s₂ h m =
    let l = h.lists in
    let g = l.group_room in
    let f = l.fates_room in
    let x = m.group in
    let y = m.fates in
    record {
      works = rw (m.sheet) m.works;
      fixed = rw (m.sheet, m.adapter) h.fixed;
      whole = rw (m.sheet) (all_stay s.pool s₂.pool s.sheet.ios.items m.pages h.whole);
      rooms = rw (m.sheet) (rooms-stay s.pool s₂.pool s.sheet.ops s.sheet.ios.items s₂.rooms.items m.pages m.rooms);
      kept = rw (m.sheet) m.kept;
      replies = rw (m.sheet) (m.replies ∙ h.replies);
      lists = rw (m.sheet) (record { group_room = omega arith; fates_room = omega arith; scratch_room = m.scratch });
    }
