use Rattle.std.specs.Prelude.{ℕ, ◌≡◌, ◌≤◌, ◌⊎◌, false, List, length, map, Option, Some, None, is_some}
use Rattle.dix_base.specs.Told.{Rose}
use Rattle.record_laws.specs.Answered.{Answers}
use Rattle.rig_api.specs.Head.{IsHeadOf, head_fault}
use Rattle.rig_api.specs.State.{RigState}
use Rattle.rig_api.specs.Target.{Stored}
use Rattle.rig_api.specs.Telling.{Opened, Standing, Stayed, units_told}
use Rattle.rig_api.specs.declared.rig.RigFault.{RigFault}
use Rattle.rig_api.specs.declared.rig.RigFault.TheVariants as rig
use Rattle.rig_discovery.specs.Discovery.{Ends, HasFault, HasFound}
use Rattle.rig_discovery.specs.declared.opening.Untold.{Untold}
use Rattle.rig_discovery.specs.declared.opening.Untold.TheVariants as why
use Rattle.volume_table.specs.declared.device.DeviceInfo.{DeviceInfo}

-- The image of this name was opened once more, and its head has this fault or none.
pub record ImageWasOpened (name : List ℕ) (fault : Option RigFault) (old new : RigState) : Type 0 where
  pub opened : Opened name old.standing new.standing
  pub judged : head_fault new.standing.head ≡ fault
  pub head : IsHeadOf new.standing.head new.image

-- The image of this name was opened once more, or none was opened.
abbrev pub OpenedOnce : List ℕ → Standing → Standing → Type 0
OpenedOnce name old new = Stayed old new ⊎ Opened name old new

-- The image's bytes, the armed faults and the records are as before, and the count of faults didn't fall.
pub record HasKept (old new : RigState) : Type 0 where
  pub image : new.image ≡ old.image
  pub armed : new.armed ≡ old.armed
  pub log : new.log ≡ old.log
  pub count : old.faults ≤ new.faults

-- a device as its stored blocks tell it
abbrev pub device_of : Stored → DeviceInfo
device_of u = record { ty = u.ty; blocks = length u.blocks; size = u.size; first = u.first }

-- The rig has just these devices, at most 8, and where it tells its blocks they are its units. An address behind a device's last block fits 64 bits.
pub record HasDevices (devices : List DeviceInfo) (s : Standing) (units : Option (List Stored)) : Type 0 where
  pub count : length devices ≡ s.devices
  pub few : length devices ≤ 8
  pub ends : Ends devices
  pub told : (us : List Stored) → units ≡ Some us → devices ≡ map device_of us

-- The image of this name was opened, and its head is right. Neither this nor what came since changed a byte of it.
pub record HasOpened (name : List ℕ) (old between new : RigState) : Type 0 where
  pub opened : ImageWasOpened name None old between
  pub kept : HasKept old between
  pub laid : between.units ≡ units_told between.standing between.image
  pub image : new.image ≡ between.image
  pub units : new.units ≡ between.units
  pub standing : new.standing ≡ between.standing
  pub count : between.faults ≤ new.faults

-- Then each device was asked once what it is. The armed faults are those that were before it was opened. Where the rig tells its blocks, the records are its units' answers.
pub record WasTold (name : List ℕ) (devices : List DeviceInfo) (old new : RigState) : Type 0 where
  pub between : RigState
  pub since : HasOpened name old between new
  pub armed : new.armed ≡ old.armed
  pub found : HasFound between.standing devices between.log new.log
  pub devices_are : HasDevices devices new.standing new.units
  pub answered : (us : List Stored) → between.units ≡ Some us → Answers us between new

-- The device of this number gave an answer at fault, the first. The blocks aren't told then, and the armed faults are those that were before the image was opened.
pub record IsBad (name : List ℕ) (dev : ℕ) (old new : RigState) : Type 0 where
  pub between : RigState
  pub since : HasOpened name old between new
  pub armed : new.armed ≡ old.armed
  pub fault : HasFault between.standing dev between.log new.log
  pub untold : is_some between.units ≡ false

-- Why it isn't known what the devices of an image are: it isn't opened, there is no memory, or a device's answer is at fault.
abbrev pub WhyUntold : Untold → List ℕ → RigState → RigState → Type 0
WhyUntold (why.Rig rig.Failed) name old new = Rose old.faults new.faults × Opened name old.standing new.standing × HasKept old new
WhyUntold (why.Rig rig.Memory) name old new = HasKept old new × OpenedOnce name old.standing new.standing
WhyUntold (why.Rig fault) name old new = ImageWasOpened name (Some fault) old new × HasKept old new
WhyUntold (why.Device bad) name old new = IsBad name bad.dev old new
