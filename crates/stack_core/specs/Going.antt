-- Where the steps of a stack can be done, and what some steps keep, over any rig and over one that tells its blocks.
use Rattle.std.specs.Prelude.{◌≡◌, ℕ, ◌+◌, ◌≤◌, List, false, is_some}
use Rattle.std.specs.List.{list_any}
use Rattle.dix_base.specs.Told.{Calm}
use Rattle.rig_api.specs.State.{KeepsRecords, RigState, Stays as RigStays}
use Rattle.record_laws.specs.Answered.{PutsAnswers}
use Rattle.block_path.specs.Acts.{State}
use Rattle.stack_walk_laws.specs.Passed.{Setting}
use Rattle.stack_ops.specs.declared.op.Op.{Op}
use Rattle.stack_ops.specs.declared.reply.Reply.{Reply}
use Rattle.stack_ops.specs.Ops.{is_overwrite}
use Rattle.stack_core.specs.declared.stack.Stack.{Stack}
use Rattle.stack_core.specs.Mediums.{HasCounted, RoseBy, medium_replies}
use Rattle.stack_core.specs.Stacks.{HasSpare, IsStack, Reaches}
use Rattle.stack_core.specs.Walking.{Walks, WalksFalling, WalksTold}

-- The steps of a stack can be done over a rig: it has the devices and the blocks that the ops name, and room for what may still be sent.
pub record StandsOver (s : Stack) (rig : RigState) : Type 0 where
  pub stack : IsStack s
  pub reaches : Reaches s (is_some rig.image) rig.standing
  pub spare : HasSpare s rig.standing rig.room

-- A stack that follows the walk by what stands on record still does. So does one that follows it where store calls may fail; and what failed at the medium, but for the blocks of which a fault line says so, is still at most as much as the count of faults rose.
-- Where that count didn't rise, none failed: a stack that follows the walk with the target behind the adapter still does, and no overwrite replied that its own did.
-- Where no op overwrites a stored block, the records of a stack that follows the walk are what the rig's units answer.
pub record Went (old : Stack) (before : RigState) (new : Stack) (after : RigState) : Type 0 where
  pub walks : (m : Setting) (n : ℕ) (opening : State) (first : ℕ) → Walks m n opening first old before.standing before.log → Walks m n opening first new after.standing after.log
  pub falling : (m : Setting) (n : ℕ) (opening : State) (first : ℕ) → WalksFalling m n opening first old before.units before.armed before.standing before.log
      → WalksFalling m n opening first new after.units after.armed after.standing after.log
  pub told : (m : Setting) (n : ℕ) (opening : State) (first : ℕ) → Calm before.faults after.faults → WalksTold m n opening first old before.units before.armed before.standing before.log
      → WalksTold m n opening first new after.units after.armed after.standing after.log
  pub silent : Calm before.faults after.faults → medium_replies old.replies.items ≡ 0 → medium_replies new.replies.items ≡ 0
  pub faults : before.faults ≤ after.faults
  pub counts : (first : ℕ) → HasCounted before.armed first old before.faults → HasCounted after.armed first new after.faults
  pub sheet : new.sheet ≡ old.sheet
  pub answered : (m : Setting) (n : ℕ) (opening : State) (first : ℕ) → Walks m n opening first old before.standing before.log → list_any is_overwrite old.sheet.ops ≡ false → PutsAnswers before after

-- ---- the parts of a step

-- No block was settled, and no op replied.
pub record SettlesNone (old new : Stack) : Type 0 where
  pub kept : new.kept ≡ old.kept
  pub replies : new.replies.items ≡ old.replies.items

-- An op was admitted over a rig, which stays as it was, with its records; where no op overwrites a stored block, so do its units.
pub record AdmitsOver (ops : List Op) (old new : RigState) : Type 0 where
  pub stays : RigStays old new
  pub keeps : KeepsRecords old new
  pub answered : list_any is_overwrite ops ≡ false → PutsAnswers old new

-- Overwrites that reply that their store calls failed are more only where the count of faults rose, and by no more than it did.
abbrev pub FailsCounted : (old new : List Reply) (count count' : ℕ) → Type 0
FailsCounted old new count count' = (n first : ℕ) → RoseBy (n + medium_replies old) first count → RoseBy (n + medium_replies new) first count'
