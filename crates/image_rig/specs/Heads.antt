use Rattle.std.specs.Prelude.{ℕ, ◌≡◌, ◌≤◌, ◌⊎◌, List, [], take, Result, Ok, Err, IsErrOf}
use Rattle.dix_base.specs.Stores.{StoreState}
use Rattle.dix_base.specs.Told.{Rose}
use Rattle.rig_api.specs.Head.{Head}
use Rattle.rig_api.specs.Telling.{Opened, OpenedBy, Standing, Stayed}
use Rattle.rig_api.specs.declared.rig.RigFault.{RigFault}
use Rattle.rig_api.specs.declared.rig.RigFault.TheVariants.{BadMagic, BadHeader, BadLength, Failed, Memory}
use Rattle.image_rig.specs.declared.image_head.ImageHead.{ImageHead}

-- the head that was read
abbrev pub head_in : ImageHead → Head
head_in h = record { size = h.size; first = take h.have h.first }

-- the name that was handed in last and the number of openings, of a rig without devices
abbrev pub called : StoreState → Standing
called s = record { devices = 0; head = record { size = 0; first = [] }; name = s.handed; openings = s.openings }

-- The content of this name was opened, once, and read, or there was no memory for its name. The store keeps its bytes, and the count of faults rose where it failed.
pub record HasLooked {X : Type 0} (result : Result X RigFault) (name : List ℕ) (old new : StoreState) : Type 0 where
  pub same : new.bytes ≡ old.bytes
  pub opening : Stayed (called old) (called new) ⊎ Opened name (called old) (called new)
  pub opened : OpenedBy result name (called old) (called new)
  pub failed : IsErrOf result Failed → Rose old.faults new.faults
  pub count : old.faults ≤ new.faults

-- a fault of a head
abbrev pub IsHeadFault : RigFault → Type 0
IsHeadFault BadMagic = Unit {0}
IsHeadFault BadHeader = Unit {0}
IsHeadFault BadLength = Unit {0}
IsHeadFault Failed = ⊥
IsHeadFault Memory = ⊥

-- The answer is one on a head: it is right, or has a fault.
abbrev pub JudgesHead : {X : Type 0} → Result X RigFault → Type 0
JudgesHead (Ok x) = Unit {0}
JudgesHead (Err fault) = IsHeadFault fault
