-- What ops need that are no requests.
use Rattle.std.specs.Prelude.{◌≡◌, ℕ, ◌<◌, ◌^◌, Bool, true, List, length}
use Rattle.page_pool.specs.Pages.{LiesIn}
use Rattle.rig_api.specs.declared.change.Change.{Change}
use Rattle.rig_api.specs.Telling.{Standing, can_change, source_of}
use Rattle.stack_ops.specs.declared.op.Op.{Op}
use Rattle.stack_ops.specs.declared.op.Op.TheVariants.{Fill, Put, Show, Seal, Write, Fetch, WritePi, FetchPi, Overwrite, Wait}
use Rattle.stack_ops.specs.Footprints.{put_seg}
use Rattle.stack_core.specs.declared.kept.Room.{Room}
use Rattle.stack_core.specs.Replies.{HoldsSeal, HoldsShown}

-- A rig has the devices of the block that is changed and of the one that is copied; one that tells its image has the blocks.
pub record HasChangedBlocks (told : Bool) (st : Standing) (dev lba : ℕ) (change : Change) : Type 0 where
  pub device : dev < st.devices
  pub source : source_of change dev < st.devices
  pub place : told ≡ true → can_change st dev lba change ≡ true

-- its bytes lie in the pool, and there is room for its reply
abbrev pub CanDo : List (List ℕ) → Room → Op → Type 0
CanDo pool room (Fill seg byte) = LiesIn pool seg
CanDo pool room (Put page off bytes) = LiesIn pool (put_seg page off bytes) × (length bytes < 2 ^ 32)
CanDo pool room (Show seg) = LiesIn pool seg × HoldsShown seg.len room
CanDo pool room (Seal n body tuples app rtag) = HoldsSeal pool body room
CanDo pool room (Write v n body app) = Unit {0}
CanDo pool room (Fetch v n body) = Unit {0}
CanDo pool room (WritePi v n body tuples) = Unit {0}
CanDo pool room (FetchPi v n body tuples) = Unit {0}
CanDo pool room (Overwrite dev lba change) = Unit {0}
CanDo pool room Wait = Unit {0}

-- the rig has the blocks that it names
abbrev pub CanReach : (told : Bool) → Standing → Op → Type 0
CanReach told st (Fill seg byte) = Unit {0}
CanReach told st (Put page off bytes) = Unit {0}
CanReach told st (Show seg) = Unit {0}
CanReach told st (Seal n body tuples app rtag) = Unit {0}
CanReach told st (Write v n body app) = Unit {0}
CanReach told st (Fetch v n body) = Unit {0}
CanReach told st (WritePi v n body tuples) = Unit {0}
CanReach told st (FetchPi v n body tuples) = Unit {0}
CanReach told st (Overwrite dev lba change) = HasChangedBlocks told st dev lba change
CanReach told st Wait = Unit {0}
