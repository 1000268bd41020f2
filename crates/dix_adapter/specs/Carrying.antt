-- What a group is carried with, and what its carrying leaves.
use Rattle.std.specs.Prelude.{◌≡◌, ℕ, ◌<◌, ◌≤◌, true, List, length, Some}
use Rattle.page_pool.specs.Cells.{flat}
use Rattle.bio_core.specs.declared.bio.Bio.{Bio}
use Rattle.bio_core.specs.declared.fate.Fate.{Fate}
use Rattle.bio_core.specs.declared.request.Io.{Io}
use Rattle.rig_api.specs.Passed.{Stored}
use Rattle.rig_api.specs.Log.{HasRoom}
use Rattle.rig_api.specs.Telling.{frame_size, greatest_size, spec_at, unit_at}
use Rattle.rig_api.specs.State.{RigState}
use Rattle.dix_adapter.specs.declared.adapter.Adapter.{Adapter}
use Rattle.dix_adapter.specs.declared.scratch.Scratch.{Scratch}
use Rattle.dix_adapter.specs.Carried.{Fetched, WasSent}
use Rattle.dix_adapter.specs.Groups.{IsCarriedGroup, IsProtect, block_len, first_of, size}
use Rattle.dix_adapter.specs.Room.{HoldsBlocks}
use Rattle.dix_adapter.specs.Ways.{CameIn, IsBehind, RecordedIn, RecordedOut, UpTo, WentOut, any_settled}

-- A group can be carried: its commands have a protect field, its blocks have room in the scratch and their fates in the list, its device is there, and the rig has room for one command more.
pub record CanCarry (a : Adapter) (pool : List (List ℕ)) (ios : List Io) (req : List Bio) (s : Scratch) (capacity : ℕ) (rig : RigState) : Type 0 where
  pub protect : IsProtect a.protect
  pub bytes : ℕ
  pub group : IsCarriedGroup a pool bytes ios req
  pub scratch : HoldsBlocks (block_len ios req) (size req) s
  pub fates : size req ≤ capacity
  pub device : (first_of req).dev < rig.standing.devices
  pub spare : HasRoom (greatest_size rig.standing) 1 (size req) rig.room

-- A write went out: it was sent; where the unit has blocks of its size, its frames stand on record; and where the units are told, each block went its way.
pub record HasCarriedOut (a : Adapter) (ios : List Io) (req : List Bio) (pool pool' : List (List ℕ)) (fates : List Fate) (old new : RigState) : Type 0 where
  pub sent : WasSent a ios req pool pool' fates old new
  pub recorded : (spec_at old.standing (first_of req).dev).size ≡ block_len ios req → RecordedOut a ios req (flat pool) fates old new
  pub went : (us : List Stored) → old.units ≡ Some us → IsBehind a ios req us old.armed
      → UpTo (λ stop. WentOut a ios req (flat pool) us stop fates old new) (frame_size (unit_at us (first_of req).dev)) old.faults new.faults

-- A read came in: it was fetched; where the unit has blocks of its size, its frames stand on record; and where the units are told, each block came its way.
pub record HasCarriedIn (a : Adapter) (ios : List Io) (req : List Bio) (pool pool' : List (List ℕ)) (fates : List Fate) (old new : RigState) : Type 0 where
  pub fetched : Fetched a ios req pool pool' fates old new
  pub recorded : (spec_at old.standing (first_of req).dev).size ≡ block_len ios req → RecordedIn a ios req pool pool' fates old new
  pub came : (us : List Stored) → old.units ≡ Some us → IsBehind a ios req us old.armed
      → UpTo (λ stop. CameIn a ios req pool pool' us stop fates old new) (frame_size (unit_at us (first_of req).dev)) old.faults new.faults

-- Of each block of a group it is said what became of it, and some block is done or ended the command.
pub record HasSettled (req : List Bio) (fates : List Fate) : Type 0 where
  pub count : length fates ≡ size req
  pub settles : any_settled fates ≡ true
