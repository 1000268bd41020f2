-- Images that are opened, and the places in them.
use Rattle.std.proofs.Common.{ℕ, ◌≡◌, ◌≤◌, inl, inr, List, Option, Some, None, Result, Ok, Err, refl, sym, ap, subst, ◌∙◌, arith}
use Rattle.std.specs.Prelude.{IsErrOf}
use Rattle.call_refusal.specs.Refusals.{of_rig}
use Rattle.call_refusal.specs.declared.refusal.Refusal.{Refusal as Stop}
use Rattle.call_refusal.specs.declared.refusal.Refusal.TheVariants as stop
use Rattle.call_verdict.specs.Verdicts.{stop_status}
use Rattle.call_verdict.specs.declared.status.Status.{Status}
use Rattle.call_verdict.specs.declared.status.Status.TheVariants as status
use Rattle.dix_base.specs.Stores.{StoreState, WasRead}
use Rattle.dix_base.specs.Told.{Calm, Rose}
use Rattle.dix_base.proofs.Counts.{never_rose}
use Rattle.image_blocks.specs.Images.{IsJudged, units_open}
use Rattle.image_blocks.specs.Places.{IsStretch}
use Rattle.image_blocks.specs.declared.image.Image.{Image}
use Rattle.image_blocks.specs.declared.stretch.PlaceFault.{PlaceFault}
use Rattle.image_blocks.specs.declared.stretch.Stretch.{Stretch}
use Rattle.image_rig.specs.Heads.{HasLooked, called}
use Rattle.lab_run.specs.declared.place.PlaceWord.{PlaceWord}
use Rattle.rig_api.specs.Head.{head_fault, head_of, units_of}
use Rattle.rig_api.specs.State.{RigState}
use Rattle.rig_api.specs.Telling.{OpenedBy}
use Rattle.rig_api.specs.declared.rig.RigFault.{RigFault}
use Rattle.rig_api.specs.declared.rig.RigFault.TheVariants as head
use Rattle.rig_api.proofs.HeadLaws.{headed}
use Rattle.rig_api.specs.declared.units.UnitSpec.{UnitSpec}
use Rattle.call_verdict.specs.Words.{image_in}
use Rattle.lab_run.specs.Breaking.{EndsBy, cut_status}
use Rattle.lab_run.specs.Calls.{on_first, stretch_in}
use Rattle.lab_run.specs.Images.{BadHeadOf, CauseUnfound, CauseUnopened, Finds, HasNoPlace, HasPlace, IsBadHead, IsFound, IsNoPlace, OpenedAs}
use Rattle.lab_run.specs.Keeping.{OpenedOnce, ReadsFirst, ReadsOnce}
use Rattle.lab_run.specs.Telling.{RefusesImage}
use Rattle.lab_run.specs.declared.finding.Found.{Found}
use Rattle.lab_run.specs.declared.finding.Unfound.{Unfound}
use Rattle.lab_run.specs.declared.finding.Unfound.TheVariants as unfound

-- ---- an image is opened, or isn't

-- what the opening of an image leaves
pub record Tried (result : Result Image RigFault) (name : List ℕ) (old new : StoreState) : Type 0 where
  pub judged : IsJudged result old.bytes new.length
  pub failed : IsErrOf result head.Failed → Rose old.faults new.faults
  pub opening : OpenedOnce name old new
  pub opened : OpenedBy result name (called old) (called new)
  pub same : new.bytes ≡ old.bytes
  pub count : old.faults ≤ new.faults

pub tried : (result : Result Image RigFault) (name handed : List ℕ) (old new : StoreState) → handed ≡ name → IsJudged result old.bytes new.length → HasLooked result handed old new → Tried result name old new
tried result name handed old new e j l = record {
  judged = j;
  failed = l.failed;
  opening = subst (λ (x : List ℕ). OpenedOnce x old new) e l.opening;
  opened = subst (λ (x : List ℕ). OpenedBy result x (called old) (called new)) e l.opened;
  same = l.same;
  count = l.count;
}

pub tried_once : (result : Result Image RigFault) (name : List ℕ) (old new : StoreState) → Tried result name old new → ReadsOnce name old new
tried_once result name old new t = record { same = t.same; opening = t.opening; count = t.count }

pub opened_in : (image : Image) (name : List ℕ) (old new : StoreState) → Tried (Ok image) name old new → OpenedAs (units_open image) name old new
opened_in image name old new t = record { opened = t.opened; head = t.judged.head; right = t.judged.judged; told = t.judged.told; units = t.judged.units }

pub unopened : (x : RigFault) (name : List ℕ) (old new : StoreState) → Tried (Err x) name old new → CauseUnopened (of_rig x) name old new
unopened head.BadMagic name old new t = record { opened = t.opened; head = t.judged.head; judged = t.judged.judged; told = t.judged.told }
unopened head.BadHeader name old new t = record { opened = t.opened; head = t.judged.head; judged = t.judged.judged; told = t.judged.told }
unopened head.BadLength name old new t = record { opened = t.opened; head = t.judged.head; judged = t.judged.judged; told = t.judged.told }
unopened head.Failed name old new t = t.failed refl
unopened head.Memory name old new t = tt

-- ---- a place is found, or isn't

pub not_opened : (x : RigFault) (u : Unfound) (place : PlaceWord) (name : List ℕ) (old new : StoreState) → u ≡ unfound.Stopped (of_rig x) → Tried (Err x) name old new → Finds (Err u) place name old new
not_opened x u place name old new e t = record { came = subst (λ (y : Unfound). CauseUnfound place y name old new) (sym e) (unopened x name old new t); kept = tried_once (Err x) name old new t }

pub not_there : (image : Image) (x : PlaceFault) (u : Unfound) (place : PlaceWord) (name : List ℕ) (old new : StoreState) → u ≡ unfound.Place x → Tried (Ok image) name old new → Err x ≡ stretch_in (units_open image) place → Finds (Err u) place name old new
not_there image x u place name old new e t p = record {
  came = subst (λ (y : Unfound). CauseUnfound place y name old new) (sym e) (record { units = units_open image; opened = opened_in image name old new t; judged = sym p });
  kept = tried_once (Ok image) name old new t;
}

pub found : (image : Image) (at : Stretch) (place : PlaceWord) (name : List ℕ) (old new : StoreState) → Tried (Ok image) name old new → Ok at ≡ stretch_in (units_open image) place → IsStretch (units_open image) at → Finds (Ok (record { image = image; at = at })) place name old new
found image at place name old new t p i = record {
  came = record { has = record { opened = opened_in image name old new t; there = sym p }; inside = i; held = t.judged.held };
  kept = tried_once (Ok image) name old new t;
}

-- the same by the name that the words have
pub finds_named : (result : Result Found Unfound) (place : PlaceWord) (handed name : List ℕ) (old new : StoreState) → handed ≡ name → Finds result place handed old new → Finds result place name old new
finds_named result place handed name old new e h = subst (λ (x : List ℕ). Finds result place x old new) e h

-- ---- a store that is read, or written inside, once it was opened

pub has_since : (us : List UnitSpec) (at : Stretch) (place : PlaceWord) (name : List ℕ) (old mid new : StoreState) → new.handed ≡ mid.handed → new.openings ≡ mid.openings → HasPlace us at place name old mid → HasPlace us at place name old new
has_since us at place name old mid new n k h = record { opened = record { opened = rw (n, k) h.opened.opened; head = h.opened.head; right = h.opened.right; told = h.opened.told; units = h.opened.units }; there = h.there }

pub reads_on : (name : List ℕ) (old mid new : StoreState) → ReadsOnce name old mid → WasRead mid new → ReadsOnce name old new
reads_on name old mid new k g = record { same = g.same ∙ k.same; opening = rw (g.named, g.opened) k.opening; count = (let a = k.count in let b = g.count in omega (arith, a, b)) }

pub reads_none : (name : List ℕ) (h : StoreState) → ReadsOnce name h h
reads_none name h = record { same = refl; opening = inl (refl, refl); count = omega arith }

pub reads_first : (words : List (List ℕ)) (old new : StoreState) (left : Option (List ℕ)) (reads : ℕ) (rig : RigState) (second : StoreState) → ReadsOnce (image_in words) old new → ReadsFirst (on_first words old new left reads rig second)
reads_first words old new left reads rig second k = record { source = (refl, refl); rig = refl; first = k; second = refl }

-- ---- of an image that is told

pub units_told : (name : List ℕ) (old new : StoreState) (image : List ℕ) (us : List UnitSpec) → old.bytes ≡ Some image → OpenedAs us name old new → us ≡ units_of (head_of image)
units_told name old new image us b o = o.units ∙ ap units_of (headed o.head image old.bytes b o.told)

pub bad_none : (name : List ℕ) (old new : StoreState) (image : List ℕ) (x : RigFault) → old.bytes ≡ Some image → BadHeadOf x name old new → head_fault (head_of image) ≡ None → ⊥
bad_none name old new image x b h r = let e : ◌≡◌ {A = Option RigFault} (Some x) None = sym h.judged ∙ ap head_fault (headed h.head image old.bytes b h.told) ∙ r in absurd (cc)

pub wrong_head : (name : List ℕ) (old new : StoreState) (image : List ℕ) (us : List UnitSpec) → old.bytes ≡ Some image → OpenedAs us name old new → IsBadHead image → ⊥
wrong_head name old new image us b o w = let k : ◌≡◌ {A = Option RigFault} None (Some w.0) = sym o.right ∙ ap head_fault (headed o.head image old.bytes b o.told) ∙ w.1 in absurd (cc)

-- an image that has a place has no fault there
pub no_place : (name : List ℕ) (old new : StoreState) (image : List ℕ) (place : PlaceWord) (x : PlaceFault) (at : Stretch) → old.bytes ≡ Some image → stretch_in (units_of (head_of image)) place ≡ Ok at → HasNoPlace place x name old new → ⊥
no_place name old new image place x at b k c =
    let units = units_told name old new image c.units b c.opened in
    let e : stretch_in (units_of (head_of image)) place ≡ Err x = ap (λ (u : List UnitSpec). stretch_in u place) (sym units) ∙ c.judged in
    let both : ◌≡◌ {A = Result Stretch PlaceFault} (Ok at) (Err x) = sym k ∙ e in
    absurd (cc)

pub wrong_place : (name : List ℕ) (old new : StoreState) (image : List ℕ) (us : List UnitSpec) (at : Stretch) (place : PlaceWord) → old.bytes ≡ Some image → HasPlace us at place name old new → IsNoPlace place image → ⊥
wrong_place name old new image us at place b h w =
    let units = units_told name old new image us b h.opened in
    let k : ◌≡◌ {A = Result Stretch PlaceFault} (Ok at) (Err w.0) = sym h.there ∙ ap (λ (u : List UnitSpec). stretch_in u place) units ∙ w.1 in
    absurd (cc)

pub same_place : (name : List ℕ) (old new : StoreState) (image : List ℕ) (us : List UnitSpec) (place : PlaceWord) (at here : Stretch) → old.bytes ≡ Some image → HasPlace us here place name old new → stretch_in (units_of (head_of image)) place ≡ Ok at → here ≡ at
same_place name old new image us place at here b h k =
    let units = units_told name old new image us b h.opened in
    let both : ◌≡◌ {A = Result Stretch PlaceFault} (Ok here) (Ok at) = sym h.there ∙ ap (λ (u : List UnitSpec). stretch_in u place) units ∙ k in
    cc

-- ---- an image that isn't opened

pub unopened_right : (s : Stop) (name : List ℕ) (old new : StoreState) (image : List ℕ) → old.bytes ≡ Some image → head_fault (head_of image) ≡ None → Calm old.faults new.faults → CauseUnopened s name old new → stop_status s ≡ status.Memory
unopened_right (stop.Image x) name old new image b h k c = absurd (bad_none name old new image x b c h)
unopened_right stop.RigFault name old new image b h k c = absurd (never_rose old.faults new.faults k c)
unopened_right stop.Memory name old new image b h k c = refl
unopened_right _ name old new image b h k c = absurd c

pub unopened_wrong : (s : Stop) (name : List ℕ) (old new : StoreState) → Calm old.faults new.faults → CauseUnopened s name old new → RefusesImage (stop_status s)
unopened_wrong (stop.Image x) name old new k c = inl refl
unopened_wrong stop.RigFault name old new k c = absurd (never_rose old.faults new.faults k c)
unopened_wrong stop.Memory name old new k c = inr refl
unopened_wrong _ name old new k c = absurd c

-- a text whose end in the middle has no reason is whole
pub unbroken : (reason : Type 0) (broken : Option ℕ) (cut done : Status) → EndsBy reason broken → (reason → ⊥) → cut_status broken cut done ≡ done
unbroken reason None cut done e n = refl
unbroken reason (Some k) cut done e n = absurd (n e)
