use Rattle.std.specs.Prelude.{ℕ, ◌≡◌, ◌⊎◌, ltb, List, Option, Some, None, Result, Ok, Err}
use Rattle.dix_base.specs.Told.{Rose}
use Rattle.call_refusal.specs.declared.refusal.Refusal.TheVariants as stop
use Rattle.call_verdict.specs.Verdicts.{Work, done_status}
use Rattle.call_verdict.specs.declared.status.Status.{Status}
use Rattle.call_verdict.specs.declared.status.Status.TheVariants as status
use Rattle.image_blocks.specs.Places.{spec_of}
use Rattle.image_blocks.specs.declared.stretch.PlaceFault.{PlaceFault}
use Rattle.image_blocks.specs.declared.stretch.Stretch.{Stretch}
use Rattle.image_text.specs.Compared.{HaveBlocks, Places, diff_of, differ_of}
use Rattle.image_text.specs.declared.fault.DiffFault.{DiffFault}
use Rattle.image_text.specs.declared.fault.DiffFault.TheVariants as compare
use Rattle.lab_run.specs.declared.place.PlaceWord.{PlaceWord}
use Rattle.rig_api.specs.Head.{head_fault, head_of, units_of}
use Rattle.rig_api.specs.declared.rig.RigFault.{RigFault}
use Rattle.rig_api.specs.declared.units.UnitSpec.{UnitSpec}
use Rattle.lab_run.specs.Breaking.{EndsBy, cut_status, cut_text}
use Rattle.lab_run.specs.Calls.{Facts, second_in, stretch_in}
use Rattle.lab_run.specs.Images.{BadHeadOf, CauseNotOpened, HasFirst, HasNoFirst, HasNoPlace, HasPlace, IsBadHead, IsNoPlace}
use Rattle.lab_run.specs.Telling.{AnswersImage, AreCalmBoth, RefusesImage}
use Rattle.lab_run.specs.Texts.{lab}
use Rattle.lab_run.specs.declared.refusal.Refusal.{Refusal}
use Rattle.lab_run.specs.declared.refusal.Refusal.TheVariants as refusal

-- ---- diff IMAGE PLACE IMAGE PLACE: each two blocks of the places that differ were told

-- The blocks of two places have the same size.
abbrev pub AreOneSize : Places → Type 0
AreOneSize p = (spec_of p.units p.at.dev).size ≡ (spec_of p.others p.to.dev).size

-- Both images were opened, and have their places.
pub record HaveBoth (one other : PlaceWord) (p : Places) (f : Facts) : Type 0 where
  pub first : HasFirst p.units p.at one f
  pub second : HasPlace p.others p.to other (second_in f.words) f.second f.second_after

-- two places, their blocks, and where the text on them ends
pub record Compared : Type 0 where
  pub places : Places
  pub ones : List (List ℕ)
  pub twos : List (List ℕ)
  pub broken : Option ℕ

-- Both images were opened and have the places, of one size and one number of blocks. These are their blocks, each of the length that is stored: where an image is told the stored ones. The text ends in its middle only where a store failed.
pub record HasCompared (one other : PlaceWord) (x : Compared) (f : Facts) : Type 0 where
  pub both : HaveBoth one other x.places f
  pub size : AreOneSize x.places
  pub many : x.places.at.count ≡ x.places.to.count
  pub has : HaveBlocks x.places x.ones x.twos f.first.bytes f.second.bytes
  pub ends : EndsBy (Rose f.first.faults f.first_after.faults ⊎ Rose f.second.faults f.second_after.faults) x.broken

-- The first image was opened and has its place, the second was opened, and this is the first fault of its head.
pub record HasBadSecond (one : PlaceWord) (fault : RigFault) (f : Facts) : Type 0 where
  pub units : List UnitSpec
  pub at : Stretch
  pub first : HasFirst units at one f
  pub second : BadHeadOf fault (second_in f.words) f.second f.second_after

-- The first image was opened and has its place, and the second was opened and hasn't its own, for this reason.
pub record HasNoSecond (one other : PlaceWord) (fault : PlaceFault) (f : Facts) : Type 0 where
  pub units : List UnitSpec
  pub at : Stretch
  pub first : HasFirst units at one f
  pub second : HasNoPlace other fault (second_in f.words) f.second f.second_after

-- Both images have their places, of other sizes of blocks.
pub record HasOtherSize (one other : PlaceWord) (f : Facts) : Type 0 where
  pub places : Places
  pub both : HaveBoth one other places f
  pub judged : AreOneSize places → ⊥

-- Both images have their places, of one size of block, but of other numbers of blocks.
pub record HasOtherCount (one other : PlaceWord) (f : Facts) : Type 0 where
  pub places : Places
  pub both : HaveBoth one other places f
  pub size : AreOneSize places
  pub judged : places.at.count ≡ places.to.count → ⊥

-- Why two places aren't compared. The first image is looked at before the second.
abbrev pub CauseNotCompared : (one other : PlaceWord) → Refusal → Facts → Type 0
CauseNotCompared one other (refusal.Stopped stop.RigFault) f = Rose f.first.faults f.first_after.faults ⊎ Rose f.second.faults f.second_after.faults
CauseNotCompared one other (refusal.Stopped s) f = CauseNotOpened s f
CauseNotCompared one other (refusal.Place fault) f = HasNoFirst one fault f
CauseNotCompared one other (refusal.SecondImage fault) f = HasBadSecond one fault f
CauseNotCompared one other (refusal.SecondPlace fault) f = HasNoSecond one other fault f
CauseNotCompared one other refusal.OtherSize f = HasOtherSize one other f
CauseNotCompared one other refusal.OtherCount f = HasOtherCount one other f
CauseNotCompared one other _ f = ⊥

-- the status of places that were compared, or weren't
abbrev pub compared_status : Result ℕ DiffFault → Status
compared_status (Ok differ) = done_status (ltb 0 differ)
compared_status (Err compare.First) = status.RigFault
compared_status (Err compare.Second) = status.RigFault
compared_status (Err compare.Sink) = status.WriteFault

-- Two images that are told have these places.
pub record ArePlaces (one other : PlaceWord) (p : Places) (image : List ℕ) (second : List ℕ) : Type 0 where
  pub units : p.units ≡ units_of (head_of image)
  pub others : p.others ≡ units_of (head_of second)
  pub there : stretch_in p.units one ≡ Ok p.at
  pub other_there : stretch_in p.others other ≡ Ok p.to

-- Two images that are told are right and have the places, of one size of block and one number of blocks.
pub record AreComparable (one other : PlaceWord) (f : Facts) (image : List ℕ) : Type 0 where
  pub right : head_fault (head_of image) ≡ None
  pub second : List ℕ
  pub told : f.second.bytes ≡ Some second
  pub second_right : head_fault (head_of second) ≡ None
  pub places : Places
  pub here : ArePlaces one other places image second
  pub size : AreOneSize places
  pub many : places.at.count ≡ places.to.count

-- Two images that are told have the places, but of other sizes or numbers of blocks.
pub record AreOtherPlaces (one other : PlaceWord) (f : Facts) (image : List ℕ) : Type 0 where
  pub second : List ℕ
  pub told : f.second.bytes ≡ Some second
  pub places : Places
  pub here : ArePlaces one other places image second
  pub differ : (AreOneSize places → ⊥) ⊎ (places.at.count ≡ places.to.count → ⊥)

-- What it answers to images that are told, if no store fails. A second image at fault is refused too: its head, or it hasn't its place.
pub record AnswersBoth (one other : PlaceWord) (f : Facts) (s : Status) : Type 0 where
  pub first : AnswersImage (AreComparable one other) (λ f image. IsBadHead image ⊎ (IsNoPlace one image ⊎ AreOtherPlaces one other f image)) AreCalmBoth f s
  pub second : (image : List ℕ) → f.second.bytes ≡ Some image → IsBadHead image ⊎ IsNoPlace other image → AreCalmBoth f → RefusesImage s

-- its record
abbrev pub diff_work : (one other : PlaceWord) → Work lab
diff_work one other = record {
  Yield = Compared;
  WasDone = HasCompared one other;
  status = λ x. cut_status x.broken status.RigFault (done_status (ltb 0 (differ_of x.places x.ones x.twos)));
  text = λ x. cut_text x.broken (diff_of x.places x.ones x.twos);
  WasRefused = CauseNotCompared one other;
  Answers = AnswersBoth one other;
}
