use Rattle.std.specs.Prelude.{ℕ, ◌≡◌, ◌≤◌, ◌*◌, ◌⊎◌, false, true, List, length, take, Option, Some, None, Result, Ok, Err}
use Rattle.dix_base.specs.Told.{Becomes, Calm, HasLength, Rose}
use Rattle.call_refusal.specs.declared.refusal.Refusal.TheVariants as stop
use Rattle.call_verdict.specs.Verdicts.{Work}
use Rattle.call_verdict.specs.declared.status.Status.{Status}
use Rattle.call_verdict.specs.declared.status.Status.TheVariants as status
use Rattle.image_blocks.specs.Blocks.{HasStretch, with_stretch}
use Rattle.image_blocks.specs.Places.{spec_of}
use Rattle.image_blocks.specs.declared.stretch.Stretch.{Stretch}
use Rattle.image_text.specs.Dumps.{fits, piece_len}
use Rattle.image_text.specs.Ends.{ImportEnds, KeepsOutside, dump_in}
use Rattle.image_text.specs.declared.dumps_fault.ImportFault.{ImportFault}
use Rattle.image_text.specs.declared.dumps_fault.ImportFault.TheVariants as halt
use Rattle.image_blocks.specs.declared.fault.WalkFault.{WalkFault}
use Rattle.image_blocks.specs.declared.fault.WalkFault.TheVariants as walk
use Rattle.image_text.specs.declared.layout.Layout.{Layout}
use Rattle.lab_run.specs.declared.place.PlaceWord.{PlaceWord}
use Rattle.rig_api.specs.Head.{head_fault, head_of, units_of}
use Rattle.rig_api.specs.Headers.{image_size}
use Rattle.rig_api.specs.Image.{units_in}
use Rattle.rig_api.specs.declared.units.UnitSpec.{UnitSpec}
use Rattle.call_verdict.specs.Words.{image_in}
use Rattle.lab_run.specs.Breaking.{EndsBy, cut_status, cut_text}
use Rattle.lab_run.specs.Calls.{Facts, stretch_in}
use Rattle.lab_run.specs.Images.{CauseNotOpened, HasFirst, HasNoFirst, IsBadHead, IsNoPlace, IsRightHead}
use Rattle.lab_run.specs.Keeping.{OpenedOnce}
use Rattle.lab_run.specs.Showing.{Blocks}
use Rattle.lab_run.specs.Telling.{AnswersImage, IsCalmFirst, RefusesInput}
use Rattle.lab_run.specs.Texts.{imported_text, lab}
use Rattle.lab_run.specs.declared.importing.TheConstants.{STRETCH}
use Rattle.lab_run.specs.declared.refusal.Refusal.{Refusal}
use Rattle.lab_run.specs.declared.refusal.Refusal.TheVariants as refusal

-- The image was opened, it has the place, and the place has what the layout holds.
pub record HasFound (us : List UnitSpec) (at : Stretch) (place : PlaceWord) (layout : Layout) (f : Facts) : Type 0 where
  pub first : HasFirst us at place f
  pub fits : fits layout (spec_of us at.dev).ty ≡ true

-- The image was opened and has the place, but no tuples there, which the layout asks for.
pub record HasNoTuples (place : PlaceWord) (layout : Layout) (f : Facts) : Type 0 where
  pub units : List UnitSpec
  pub at : Stretch
  pub first : HasFirst units at place f
  pub judged : fits layout (spec_of units at.dev).ty ≡ false

-- An image that is told has the place, and what the layout asks for.
abbrev pub IsFitPlace : PlaceWord → Layout → List ℕ → Type 0
IsFitPlace place layout image = (at : Stretch) × (stretch_in (units_of (head_of image)) place ≡ Ok at) × (fits layout (spec_of (units_of (head_of image)) at.dev).ty ≡ true)

-- An image that is told has the place, but no tuples there, which the layout asks for.
abbrev pub IsNoTuples : PlaceWord → Layout → List ℕ → Type 0
IsNoTuples place layout image = (at : Stretch) × (stretch_in (units_of (head_of image)) place ≡ Ok at) × (fits layout (spec_of (units_of (head_of image)) at.dev).ty ≡ false)

-- An image that is told is at fault for a dump.
abbrev pub IsNoDump : PlaceWord → Layout → List ℕ → Type 0
IsNoDump place layout image = IsBadHead image ⊎ (IsNoPlace place image ⊎ IsNoTuples place layout image)

-- ---- export IMAGE PLACE LAYOUT: each block of the place was written in the layout, and nothing else

-- These are the blocks of the place, each of the length that is stored: where the image is told the stored ones. The dump ends in its middle only where the store failed.
pub record HasExported (place : PlaceWord) (layout : Layout) (x : Blocks) (f : Facts) : Type 0 where
  pub found : HasFound x.units x.at place layout f
  pub has : HasStretch x.units x.at x.blocks f.first.bytes
  pub ends : EndsBy (Rose f.first.faults f.first_after.faults) x.broken

-- the status of a dump that was written, or wasn't
abbrev pub dumped_status : Result (Unit {0}) WalkFault → Status
dumped_status (Ok x) = status.Whole
dumped_status (Err walk.Store) = status.RigFault
dumped_status (Err walk.Sink) = status.WriteFault

-- Why no block of a place is exported.
abbrev pub CauseNotExported : PlaceWord → Layout → Refusal → Facts → Type 0
CauseNotExported place layout (refusal.Stopped s) f = CauseNotOpened s f
CauseNotExported place layout (refusal.Place fault) f = HasNoFirst place fault f
CauseNotExported place layout refusal.NoTuples f = HasNoTuples place layout f
CauseNotExported place layout _ f = ⊥

-- its record
abbrev pub export_work : PlaceWord → Layout → Work lab
export_work place layout = record {
  Yield = Blocks;
  WasDone = HasExported place layout;
  status = λ x. cut_status x.broken status.RigFault status.Whole;
  text = λ x. cut_text x.broken (dump_in layout x.units x.at x.blocks);
  WasRefused = CauseNotExported place layout;
  Answers = AnswersImage (λ f image. IsRightHead image × IsFitPlace place layout image) (λ f image. IsNoDump place layout image) IsCalmFirst;
}

-- ---- import IMAGE PLACE LAYOUT: the dump is in the place, and its blocks were counted

-- The dump was taken so: what came of it, and what stands in the place and is left in the source. The store has the length of the units.
pub record DumpTaken (result : Result ℕ ImportFault) (us : List UnitSpec) (at : Stretch) (place : PlaceWord) (layout : Layout) (f : Facts) : Type 0 where
  pub found : HasFound us at place layout f
  pub opened_faults : ℕ
  pub since : f.first.faults ≤ opened_faults
  pub ends : ImportEnds result layout us at STRETCH opened_faults f.first_after.faults f.reads f.reads_after f.first.bytes f.first_after.bytes f.left f.left_after
  pub len : f.first_after.length ≡ image_size us

-- a dump that is in its place: so many blocks of it, which are all that the place has
pub record Imported : Type 0 where
  pub units : List UnitSpec
  pub at : Stretch
  pub count : ℕ

-- The image and the source are as before.
pub record IsUntouched (f : Facts) : Type 0 where
  pub bytes : f.first_after.bytes ≡ f.first.bytes
  pub left : f.left_after ≡ f.left
  pub reads : f.reads_after ≡ f.reads

-- The dump was broken off so, with what that leaves.
pub record HasBrokenOff (fault : ImportFault) (place : PlaceWord) (layout : Layout) (f : Facts) : Type 0 where
  pub units : List UnitSpec
  pub at : Stretch
  pub taken : DumpTaken (Err fault) units at place layout f

-- the bytes of a dump of a place
abbrev pub dump_len : List UnitSpec → Stretch → Layout → ℕ
dump_len us at layout = at.count * piece_len layout (spec_of us at.dev).ty (spec_of us at.dev).size

-- A refusal says how many bytes a source has, as far as it tells, which aren't those that are wanted.
abbrev pub IsOtherSize : Refusal → (left : Option (List ℕ)) → (bytes : ℕ) → Type 0
IsOtherSize (refusal.Size has wanted) left bytes = HasLength has left × (wanted ≡ bytes) × (has ≡ wanted → ⊥)
IsOtherSize _ left bytes = ⊥

-- The image has the place, and the source, as far as it tells, has so many bytes, which aren't those of a dump of it. All is as before.
pub record HasOtherSize (has wanted : ℕ) (place : PlaceWord) (layout : Layout) (f : Facts) : Type 0 where
  pub units : List UnitSpec
  pub at : Stretch
  pub found : HasFound units at place layout f
  pub told : HasLength has f.left
  pub asked : wanted ≡ dump_len units at layout
  pub other : has ≡ wanted → ⊥
  pub untouched : IsUntouched f

-- Why a dump isn't imported whole, and what is left then.
abbrev pub CauseNotImported : PlaceWord → Layout → Refusal → Facts → Type 0
CauseNotImported place layout (refusal.Stopped stop.RigFault) f = (Rose f.first.faults f.first_after.faults × IsUntouched f) ⊎ HasBrokenOff halt.Store place layout f
CauseNotImported place layout (refusal.Stopped stop.ReadFault) f = HasBrokenOff halt.Source place layout f
CauseNotImported place layout (refusal.Stopped s) f = CauseNotOpened s f × IsUntouched f
CauseNotImported place layout (refusal.Place fault) f = HasNoFirst place fault f × IsUntouched f
CauseNotImported place layout refusal.NoTuples f = HasNoTuples place layout f × IsUntouched f
CauseNotImported place layout (refusal.Size has wanted) f = HasOtherSize has wanted place layout f
CauseNotImported place layout (refusal.Short pieces) f = HasBrokenOff (halt.Short pieces) place layout f
CauseNotImported place layout refusal.Long f = HasBrokenOff halt.Long place layout f
CauseNotImported place layout _ f = ⊥

-- What is told of the source hasn't the length of a dump of the place.
abbrev pub IsOtherLength : List UnitSpec → Stretch → Layout → Option (List ℕ) → Type 0
IsOtherLength us at layout None = Unit {0}
IsOtherLength us at layout (Some dump) = length dump ≡ dump_len us at layout → ⊥

-- The image that is told has the place, and what the layout asks for; and the source tells a dump, and doesn't fail.
pub record IsReady (place : PlaceWord) (layout : Layout) (f : Facts) (image : List ℕ) : Type 0 where
  pub right : head_fault (head_of image) ≡ None
  pub at : Stretch
  pub there : stretch_in (units_of (head_of image)) place ≡ Ok at
  pub fits : fits layout (spec_of (units_of (head_of image)) at.dev).ty ≡ true
  pub dump : List ℕ
  pub told : f.left ≡ Some dump
  pub calm : Calm f.reads f.reads_after

-- The dump has the length that the place asks for.
abbrev pub IsRightDump : PlaceWord → Layout → Facts → List ℕ → Type 0
IsRightDump place layout f image = (r : IsReady place layout f image) × (length r.dump ≡ dump_len (units_of (head_of image)) r.at layout)

-- All is right but the dump, which has another length than the place asks for.
abbrev pub IsWrongDump : PlaceWord → Layout → Facts → List ℕ → Type 0
IsWrongDump place layout f image = (r : IsReady place layout f image) × (length r.dump ≡ dump_len (units_of (head_of image)) r.at layout → ⊥)

-- What it answers to an image and a dump that are told, if the store doesn't fail.
pub record AnswersDump (place : PlaceWord) (layout : Layout) (f : Facts) (s : Status) : Type 0 where
  pub image : AnswersImage (IsRightDump place layout) (λ f image. IsNoDump place layout image) IsCalmFirst f s
  pub dump : (image : List ℕ) → f.first.bytes ≡ Some image → IsWrongDump place layout f image → IsCalmFirst f → RefusesInput s

-- its record
abbrev pub import_work : PlaceWord → Layout → Work lab
import_work place layout = record {
  Yield = Imported;
  WasDone = λ x f. DumpTaken (Ok x.count) x.units x.at place layout f;
  status = λ x. status.Whole;
  text = λ x. imported_text x.count;
  WasRefused = CauseNotImported place layout;
  Answers = AnswersDump place layout;
}

-- ---- what an import leaves as it was

-- All blocks outside of the stretch are as before: the units are those of before, with some blocks of their length at its front.
abbrev pub AreOthersKept : List UnitSpec → Stretch → (image image_after : Option (List ℕ)) → Type 0
AreOthersKept us at image image_after = Becomes (λ was is. (left : List (List ℕ)) × (length left ≤ at.count) × (units_in us is ≡ with_stretch (units_in us was) at left)) image image_after

-- The first 512 bytes, in which the head stands, are as before.
abbrev pub KeepsHead : (image image_after : Option (List ℕ)) → Type 0
KeepsHead image image_after = Becomes (λ was is. take 512 is ≡ take 512 was) image image_after

-- The image has the place, and is as before around it: each block, each byte and the length; and its head.
pub record KeepsAround (place : PlaceWord) (f : Facts) : Type 0 where
  pub units : List UnitSpec
  pub at : Stretch
  pub first : HasFirst units at place f
  pub others : AreOthersKept units at f.first.bytes f.first_after.bytes
  pub outside : KeepsOutside units at f.first.bytes f.first_after.bytes
  pub head : KeepsHead f.first.bytes f.first_after.bytes

-- The source was read, and the first store written in the place alone: each byte that the image tells is as before, or each outside of the place. All else is as before.
pub record WritesPlace (place : PlaceWord) (f : Facts) : Type 0 where
  pub source : f.reads ≤ f.reads_after
  pub rig : f.rig_after ≡ f.rig
  pub image : (f.first_after.bytes ≡ f.first.bytes) ⊎ KeepsAround place f
  pub opening : OpenedOnce (image_in f.words) f.first f.first_after
  pub count : f.first.faults ≤ f.first_after.faults
  pub second : f.second_after ≡ f.second
