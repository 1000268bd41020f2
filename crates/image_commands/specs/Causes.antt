use Rattle.std.specs.Prelude.{ℕ, ◌≡◌, ◌≤◌, ◌⊎◌, List, [], Some, None}
use Rattle.dix_base.specs.Told.{Becomes, Calm, Rose}
use Rattle.rig_api.specs.Image.{formatted}
use Rattle.rig_api.specs.Target.{Stored}
use Rattle.rig_api.specs.declared.units.UnitSpec.{UnitSpec}
use Rattle.rig_api.specs.Head.{IsHeadOf, head_fault, units_of, version_in}
use Rattle.rig_api.specs.Telling.{IsMigrated, KeepsBlocks, KeepsUnits, LeavesShort, Opened, migrated_count}
use Rattle.rig_api.specs.State.{RigState}
use Rattle.rig_discovery.specs.Openings.{HasKept, ImageWasOpened, OpenedOnce, WasTold}
use Rattle.volume_table.specs.declared.device.DeviceInfo.{DeviceInfo}
use Rattle.pi_scrub.specs.Faults.{all_faults}
use Rattle.pi_scrub.specs.Looks.{LookedPlace, all_places}
use Rattle.pi_scrub.specs.Scrubbed.{Looked}
use Rattle.pi_scrub.specs.declared.found.Found.{Found}
use Rattle.call_refusal.specs.Causes.{CauseUntold}
use Rattle.call_refusal.specs.declared.refusal.Refusal.{Refusal}
use Rattle.call_refusal.specs.declared.refusal.Refusal.TheVariants as refusal

-- Why an image isn't opened: its head is at fault, the rig failed, or there is no memory.
abbrev pub CauseUnopened : Refusal → List ℕ → RigState → RigState → Type 0
CauseUnopened (refusal.Image f) name old new = ImageWasOpened name (Some f) old new
CauseUnopened refusal.RigFault name old new = Rose old.faults new.faults × Opened name old.standing new.standing
CauseUnopened refusal.Memory name old new = Unit {0}
CauseUnopened _ name old new = ⊥

-- The image of this name was opened once more, and where it is told it is the formatted one of these units. The armed faults are as before, and there is no further record.
pub record WasFormatted (name : List ℕ) (us : List UnitSpec) (old new : RigState) : Type 0 where
  pub opened : Opened name old.standing new.standing
  pub image : Becomes (λ was is. is ≡ formatted us) old.image new.image
  pub armed : new.armed ≡ old.armed
  pub log : new.log ≡ old.log

-- Why an image isn't formatted with these units: the rig failed; or there is no memory, and it is as it was, or a front of the formatted one that isn't opened. The armed faults are as before, and there is no further record.
abbrev pub CauseUnformatted : List UnitSpec → Refusal → List ℕ → RigState → RigState → Type 0
CauseUnformatted us refusal.RigFault name old new = Rose old.faults new.faults × Opened name old.standing new.standing × (new.log ≡ old.log) × (new.armed ≡ old.armed)
CauseUnformatted us refusal.Memory name old new = OpenedOnce name old.standing new.standing × (new.log ≡ old.log) × (new.armed ≡ old.armed) × LeavesShort (formatted us) old.image new.image
CauseUnformatted us _ name old new = ⊥

-- The image of this name was opened once more. Where its head, which is right, was of version 1, it has the equal head of version 2, and n is the number of its units; else it is as it was, and n is 0.
-- Every stored block is as before, so are the armed faults, and there is no further record.
pub record WasMigrated (name : List ℕ) (n : ℕ) (old new : RigState) : Type 0 where
  pub opened : Opened name old.standing new.standing
  pub judged : head_fault new.standing.head ≡ None
  pub head : IsHeadOf new.standing.head old.image
  pub number : n ≡ migrated_count (version_in new.standing.head) (units_of new.standing.head)
  pub image : IsMigrated new.standing.head old.image new.image
  pub stored : KeepsUnits old.image new.image
  pub armed : new.armed ≡ old.armed
  pub log : new.log ≡ old.log

-- Why an image isn't migrated: its head is at fault, the rig failed, or there is no memory. Only where the rig failed may the first 512 bytes be others. The armed faults are as before.
abbrev pub CauseUnmigrated : Refusal → List ℕ → RigState → RigState → Type 0
CauseUnmigrated (refusal.Image f) name old new = ImageWasOpened name (Some f) old new × HasKept old new
CauseUnmigrated refusal.RigFault name old new = Rose old.faults new.faults × Opened name old.standing new.standing × KeepsBlocks old.image new.image × (new.log ≡ old.log) × (new.armed ≡ old.armed)
CauseUnmigrated refusal.Memory name old new = HasKept old new × OpenedOnce name old.standing new.standing
CauseUnmigrated _ name old new = ⊥

-- The image was opened, its devices told what they are, and then every stored block was looked at.
-- What was found is what the records say; where the blocks are told and the count of faults didn't rise, it is exactly the blocks at fault. The armed faults are as before.
pub record WasScrubbed (name : List ℕ) (devices : List DeviceInfo) (found : List Found) (old new : RigState) : Type 0 where
  pub told : RigState
  pub discovered : WasTold name devices old told
  pub looked : Looked devices (all_places 0 devices) [] [] found told.log new.log told.faults new.faults
  pub exact : (us : List Stored) → told.units ≡ Some us → Calm told.faults new.faults → found ≡ all_faults 0 us
  pub units : new.units ≡ told.units
  pub armed : new.armed ≡ told.armed
  pub standing : new.standing ≡ told.standing
  pub count : told.faults ≤ new.faults

-- The devices of the image told what they are, and then blocks were looked at, each once and in order, up to those that are left. No stored block changed, and no armed fault.
pub record WasScrubbedInPart (name : List ℕ) (old new : RigState) : Type 0 where
  pub devices : List DeviceInfo
  pub told : RigState
  pub discovered : WasTold name devices old told
  pub left : List LookedPlace
  pub found : List Found
  pub looked : Looked devices (all_places 0 devices) left [] found told.log new.log told.faults new.faults
  pub units : new.units ≡ told.units
  pub armed : new.armed ≡ told.armed
  pub standing : new.standing ≡ told.standing
  pub count : told.faults ≤ new.faults

-- Why an image isn't scrubbed: it isn't known what its devices are, or there is no memory, before the first block or behind any.
abbrev pub CauseUnscrubbed : Refusal → List ℕ → RigState → RigState → Type 0
CauseUnscrubbed refusal.Memory name old new = CauseUntold refusal.Memory name old new ⊎ WasScrubbedInPart name old new
CauseUnscrubbed why name old new = CauseUntold why name old new
