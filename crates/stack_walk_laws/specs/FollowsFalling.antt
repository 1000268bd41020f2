use Rattle.std.specs.Prelude.{ℕ, ◌≡◌, List, [], length, false, Some, IfSome}
use Rattle.bio_core.specs.declared.fate.Why.TheVariants.{Medium}
use Rattle.fault_schedule.specs.Altered.{fails_of}
use Rattle.fault_schedule.specs.declared.Label.{Label}
use Rattle.fault_schedule.specs.declared.fault.FaultLine.{FaultLine}
use Rattle.block_path.specs.Passed.{stored_size}
use Rattle.block_path.specs.Acts.{State}
use Rattle.block_path.specs.Blocks.{Sent}
use Rattle.run_laws.specs.Passed.{Setting, Op}
use Rattle.stack_walk_laws.specs.Following.{Follows}
use Rattle.stack_walk_laws.specs.Slots.{Admitted, Carried, Cut, Done, Settled, Status, Waits}
use Rattle.stack_walk_laws.specs.Falls.{Falls, forgiven, none_falls, over_falls, put_really}

-- A stack between two steps follows the walk, over a rig that tells its blocks and whose store calls may have failed.

-- it was carried, and is listed for the medium
abbrev pub HasFallen : Status → Type 0
HasFallen Waits = ⊥
HasFallen Admitted = ⊥
HasFallen Cut = ⊥
HasFallen (Carried fate) = fate ≡ Some Medium
HasFallen (Settled why) = why ≡ Some Medium
HasFallen (Done shown) = ⊥

abbrev pub AllFallen : Falls → (ℕ → ℕ → Status) → Type 0
AllFallen falls status = (i k : ℕ) → IfSome (falls (record { op = i; k = k })) (λ left. HasFallen (status i k))

-- None is a block of which a fault line says that the medium fails it: that one comes to no store call.
abbrev pub FallsAside : List FaultLine → Falls → Type 0
FallsAside faults falls = (label : Label) → IfSome (falls label) (λ left. fails_of faults label ≡ false)

-- what is left has the size of a stored block
abbrev pub LeavesSized : (size : ℕ) → Falls → Type 0
LeavesSized size falls = (label : Label) → IfSome (falls label) (λ left. length left ≡ size)

-- Some store calls failed.
-- Over the device on which just these fail the stack follows the walk, with its statuses told so; pages and stored blocks are those there;
-- and what stands on record is told from the record there, each entry of which stands after the write entries before it.
pub record FollowsFalling (m : Setting) (n : ℕ) (ops : List Op) (opening : State) (status : ℕ → ℕ → Status) (pages : List ℕ) (blocks : List (List ℕ)) (es : List Sent) : Type 0 where
  pub falls : Falls
  pub after : State
  pub told : List Sent
  pub follows : Follows (over_falls m falls) n ops opening (forgiven ops falls status) after told
  pub bytes : after.bytes ≡ pages
  pub blocks_are : after.blocks ≡ blocks
  pub stamped : put_really m.site none_falls told [] ≡ told
  pub on_record : es ≡ put_really m.site falls told []
  pub fallen : AllFallen falls status
  pub aside : FallsAside m.site.faults falls
  pub sized : LeavesSized (stored_size m.ty m.size) falls
