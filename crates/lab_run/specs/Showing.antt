use Rattle.std.specs.Prelude.{ℕ, ◌⊎◌, Bool, ltb, List, Option, Result, Ok, Err}
use Rattle.dix_base.specs.Told.{Rose}
use Rattle.image_text.specs.UnitText.{units_text}
use Rattle.call_verdict.specs.Verdicts.{Work, done_status}
use Rattle.call_verdict.specs.declared.status.Status.{Status}
use Rattle.call_verdict.specs.declared.status.Status.TheVariants as status
use Rattle.image_blocks.specs.Blocks.{HasStretch}
use Rattle.image_blocks.specs.declared.stretch.Stretch.{Stretch}
use Rattle.image_text.specs.Shown.{bad_of, text_of}
use Rattle.image_text.specs.declared.show.Tally.{Tally}
use Rattle.image_blocks.specs.declared.fault.WalkFault.{WalkFault}
use Rattle.image_blocks.specs.declared.fault.WalkFault.TheVariants as walk
use Rattle.lab_run.specs.declared.place.PlaceWord.{PlaceWord}
use Rattle.rig_api.specs.declared.units.UnitSpec.{UnitSpec}
use Rattle.lab_run.specs.Breaking.{EndsBy, cut_status, cut_text}
use Rattle.lab_run.specs.Calls.{Facts}
use Rattle.lab_run.specs.Images.{CauseNotOpened, HasFirst, HasNoFirst, HasOpened, IsBadHead, IsNoPlace, IsPlace, IsRightHead}
use Rattle.lab_run.specs.Telling.{AnswersImage, IsCalmFirst}
use Rattle.lab_run.specs.Texts.{lab}
use Rattle.lab_run.specs.declared.refusal.Refusal.{Refusal}
use Rattle.lab_run.specs.declared.refusal.Refusal.TheVariants as refusal

-- ---- show IMAGE: the units of the image were listed, each by the word that makes it

-- Why the units of an image aren't listed.
abbrev pub CauseNotListed : Refusal → Facts → Type 0
CauseNotListed (refusal.Stopped s) f = CauseNotOpened s f
CauseNotListed _ f = ⊥

-- its record
abbrev pub list_work : Work lab
list_work = record {
  Yield = List UnitSpec;
  WasDone = HasOpened;
  status = λ us. status.Whole;
  text = units_text;
  WasRefused = CauseNotListed;
  Answers = AnswersImage (λ f image. IsRightHead image) (λ f image. IsBadHead image) IsCalmFirst;
}

-- ---- show IMAGE PLACE: each block of the place was told, or each at fault alone

-- blocks of a place in an image, and where their text ends
pub record Blocks : Type 0 where
  pub units : List UnitSpec
  pub at : Stretch
  pub blocks : List (List ℕ)
  pub broken : Option ℕ

-- The image was opened and has the place, and these are its blocks, each of the length that is stored: where the image is told the stored ones. The text ends in its middle only where the store failed.
pub record HasShown (place : PlaceWord) (x : Blocks) (f : Facts) : Type 0 where
  pub first : HasFirst x.units x.at place f
  pub has : HasStretch x.units x.at x.blocks f.first.bytes
  pub ends : EndsBy (Rose f.first.faults f.first_after.faults) x.broken

-- the status of blocks that were shown, or weren't
abbrev pub shown_status : Result Tally WalkFault → Status
shown_status (Ok tally) = done_status (ltb 0 tally.bad)
shown_status (Err walk.Store) = status.RigFault
shown_status (Err walk.Sink) = status.WriteFault

-- Why the blocks of a place aren't told.
abbrev pub CauseNotShown : PlaceWord → Refusal → Facts → Type 0
CauseNotShown place (refusal.Stopped s) f = CauseNotOpened s f
CauseNotShown place (refusal.Place fault) f = HasNoFirst place fault f
CauseNotShown place _ f = ⊥

-- its record
abbrev pub show_work : (only_bad : Bool) → PlaceWord → Work lab
show_work only_bad place = record {
  Yield = Blocks;
  WasDone = HasShown place;
  status = λ x. cut_status x.broken status.RigFault (done_status (ltb 0 (bad_of x.units x.at x.blocks)));
  text = λ x. cut_text x.broken (text_of only_bad x.units x.at x.blocks);
  WasRefused = CauseNotShown place;
  Answers = AnswersImage (λ f image. IsRightHead image × IsPlace place image) (λ f image. IsBadHead image ⊎ IsNoPlace place image) IsCalmFirst;
}
