use Rattle.std.specs.Prelude.{ℕ, ◌≡◌, Bool, true, false, eqb, ltb, if◌then◌else◌, List, length, take, Option, Some, None, Result, Ok, Err, codes}
use Rattle.rig_api.specs.Headers.{version_of, is_header, specs_in, image_size}
use Rattle.rig_api.specs.declared.units.UnitSpec.{UnitSpec}
use Rattle.rig_api.specs.declared.units.Version.{Version}
use Rattle.rig_api.specs.declared.units.Version.TheVariants.{First}
use Rattle.rig_api.specs.declared.rig.RigFault.{RigFault}
use Rattle.rig_api.specs.declared.rig.RigFault.TheVariants.{BadMagic, BadHeader, BadLength, Failed, Memory}

-- the image's length and its first 512 bytes, or all where there are fewer
pub record Head : Type 0 where
  pub size : ℕ
  pub first : List ℕ

abbrev pub head_of : List ℕ → Head
head_of image = record { size = length image; first = take 512 image }

abbrev pub version_in : Head → Option Version
version_in h = version_of (take 8 h.first)

abbrev pub specs_under : Option Version → List ℕ → List UnitSpec
specs_under None first = specs_in First first
specs_under (Some v) first = specs_in v first

-- the units that a right head tells
abbrev pub units_of : Head → List UnitSpec
units_of h = specs_under (version_in h) h.first

-- the fault of 512 bytes that begin with the text of this version
abbrev pub fault_of_header : Bool → (has wants : ℕ) → Option RigFault
fault_of_header false has wants = Some BadHeader
fault_of_header true has wants = if eqb has wants then None else Some BadLength

abbrev pub fault_under : Option Version → Head → Option RigFault
fault_under None h = Some BadMagic
fault_under (Some v) h = if ltb (length h.first) 512 then Some BadLength else fault_of_header (is_header v h.first) h.size (image_size (specs_in v h.first))

-- the first fault of a head: another text at its front, fewer bytes than a header, a header that no units are written as, another length than that of its units
unfoldable pub head_fault : Head → Option RigFault
head_fault h = fault_under (version_in h) h

-- the name of a fault
abbrev pub fault_name : RigFault → List ℕ
fault_name BadMagic = codes "BadMagic"
fault_name BadHeader = codes "BadHeader"
fault_name BadLength = codes "BadLength"
fault_name Failed = codes "Failed"
fault_name Memory = codes "Memory"

-- The head is that of the image, where it is told.
abbrev pub IsHeadOf : Head → Option (List ℕ) → Type 0
IsHeadOf h None = Unit {0}
IsHeadOf h (Some image) = h ≡ head_of image

-- An answer that judges the head judges that of the image as it was; any other leaves the head that was read before.
abbrev pub HasJudged : {X : Type 0} → Result X RigFault → (old new : Head) → Option (List ℕ) → Type 0
HasJudged (Ok x) old new image = IsHeadOf new image
HasJudged (Err BadMagic) old new image = IsHeadOf new image
HasJudged (Err BadHeader) old new image = IsHeadOf new image
HasJudged (Err BadLength) old new image = IsHeadOf new image
HasJudged (Err Failed) old new image = new ≡ old
HasJudged (Err Memory) old new image = new ≡ old

-- Each refusal of a head comes exactly where its first fault is that one.
abbrev pub IsFaultOf : {X : Type 0} → Result X RigFault → Head → Type 0
IsFaultOf (Ok x) h = head_fault h ≡ None
IsFaultOf (Err BadMagic) h = head_fault h ≡ Some BadMagic
IsFaultOf (Err BadHeader) h = head_fault h ≡ Some BadHeader
IsFaultOf (Err BadLength) h = head_fault h ≡ Some BadLength
IsFaultOf (Err Failed) h = Unit {0}
IsFaultOf (Err Memory) h = Unit {0}
