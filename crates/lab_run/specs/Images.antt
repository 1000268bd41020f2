use Rattle.std.specs.Prelude.{ℕ, ◌≡◌, List, Some, None, Result, Ok, Err, MatchResult}
use Rattle.dix_base.specs.Stores.{StoreState}
use Rattle.dix_base.specs.Told.{Rose}
use Rattle.call_refusal.specs.declared.refusal.Refusal.{Refusal as Stop}
use Rattle.call_refusal.specs.declared.refusal.Refusal.TheVariants as stop
use Rattle.image_blocks.specs.Images.{units_open}
use Rattle.image_blocks.specs.Places.{IsStretch}
use Rattle.image_blocks.specs.declared.stretch.PlaceFault.{PlaceFault}
use Rattle.image_blocks.specs.declared.stretch.Stretch.{Stretch}
use Rattle.image_rig.specs.Heads.{called}
use Rattle.lab_run.specs.declared.place.PlaceWord.{PlaceWord}
use Rattle.rig_api.specs.Head.{Head, IsHeadOf, head_fault, head_of, units_of}
use Rattle.rig_api.specs.Telling.{Opened}
use Rattle.rig_api.specs.declared.rig.RigFault.{RigFault}
use Rattle.rig_api.specs.Headers.{image_size}
use Rattle.rig_api.specs.declared.units.UnitSpec.{UnitSpec}
use Rattle.call_verdict.specs.Words.{image_in}
use Rattle.lab_run.specs.Calls.{Facts, stretch_in}
use Rattle.lab_run.specs.Keeping.{ReadsOnce}
use Rattle.lab_run.specs.declared.finding.Found.{Found}
use Rattle.lab_run.specs.declared.finding.Unfound.{Unfound}
use Rattle.lab_run.specs.declared.finding.Unfound.TheVariants as unfound

-- An image that is opened, and the place that words name in it.

-- The image of this name was opened in a store, its head is right, and these are its units.
pub record OpenedAs (us : List UnitSpec) (name : List ℕ) (old new : StoreState) : Type 0 where
  pub opened : Opened name (called old) (called new)
  pub head : Head
  pub right : head_fault head ≡ None
  pub told : IsHeadOf head old.bytes
  pub units : us ≡ units_of head

-- The image of this name was opened in a store, and this is the first fault of its head.
pub record BadHeadOf (fault : RigFault) (name : List ℕ) (old new : StoreState) : Type 0 where
  pub opened : Opened name (called old) (called new)
  pub head : Head
  pub judged : head_fault head ≡ Some fault
  pub told : IsHeadOf head old.bytes

-- Why an image isn't opened: its head has this first fault, or the store failed, whose count rose; or memory lacks.
abbrev pub CauseUnopened : Stop → (name : List ℕ) → (old new : StoreState) → Type 0
CauseUnopened (stop.Image fault) name old new = BadHeadOf fault name old new
CauseUnopened stop.RigFault name old new = Rose old.faults new.faults
CauseUnopened stop.Memory name old new = Unit {0}
CauseUnopened _ name old new = ⊥

-- The image of this name was opened, and has the place.
pub record HasPlace (us : List UnitSpec) (at : Stretch) (place : PlaceWord) (name : List ℕ) (old new : StoreState) : Type 0 where
  pub opened : OpenedAs us name old new
  pub there : stretch_in us place ≡ Ok at

-- The image of this name was opened, and hasn't the place, for this reason.
pub record HasNoPlace (place : PlaceWord) (fault : PlaceFault) (name : List ℕ) (old new : StoreState) : Type 0 where
  pub units : List UnitSpec
  pub opened : OpenedAs units name old new
  pub judged : stretch_in units place ≡ Err fault

-- why a place isn't found
abbrev pub CauseUnfound : PlaceWord → Unfound → (name : List ℕ) → (old new : StoreState) → Type 0
CauseUnfound place (unfound.Stopped s) name old new = CauseUnopened s name old new
CauseUnfound place (unfound.Place fault) name old new = HasNoPlace place fault name old new

-- A place was found: the image is open, all blocks of the place are there, and the store has just the length of the image.
pub record IsFound (x : Found) (place : PlaceWord) (name : List ℕ) (old new : StoreState) : Type 0 where
  pub has : HasPlace (units_open x.image) x.at place name old new
  pub inside : IsStretch (units_open x.image) x.at
  pub held : new.length ≡ image_size (units_open x.image)

-- What the search for a place comes to.
pub record Finds (result : Result Found Unfound) (place : PlaceWord) (name : List ℕ) (old new : StoreState) : Type 0 where
  pub came : MatchResult result (λ x. IsFound x place name old new) (λ u. CauseUnfound place u name old new)
  pub kept : ReadsOnce name old new

-- ---- of the first image of a call

-- The image of the words was opened, its head is right, and these are its units.
abbrev pub HasOpened : List UnitSpec → Facts → Type 0
HasOpened us f = OpenedAs us (image_in f.words) f.first f.first_after

-- It was opened, and has the place.
abbrev pub HasFirst : List UnitSpec → Stretch → PlaceWord → Facts → Type 0
HasFirst us at place f = HasPlace us at place (image_in f.words) f.first f.first_after

-- Why it isn't opened.
abbrev pub CauseNotOpened : Stop → Facts → Type 0
CauseNotOpened s f = CauseUnopened s (image_in f.words) f.first f.first_after

-- It was opened, and hasn't the place, for this reason.
abbrev pub HasNoFirst : PlaceWord → PlaceFault → Facts → Type 0
HasNoFirst place fault f = HasNoPlace place fault (image_in f.words) f.first f.first_after

-- ---- of an image that is told

-- Its head is right.
abbrev pub IsRightHead : List ℕ → Type 0
IsRightHead image = head_fault (head_of image) ≡ None

-- Its head has a fault.
abbrev pub IsBadHead : List ℕ → Type 0
IsBadHead image = (fault : RigFault) × (head_fault (head_of image) ≡ Some fault)

-- It has the place.
abbrev pub IsPlace : PlaceWord → List ℕ → Type 0
IsPlace place image = (at : Stretch) × (stretch_in (units_of (head_of image)) place ≡ Ok at)

-- It hasn't the place.
abbrev pub IsNoPlace : PlaceWord → List ℕ → Type 0
IsNoPlace place image = (fault : PlaceFault) × (stretch_in (units_of (head_of image)) place ≡ Err fault)
