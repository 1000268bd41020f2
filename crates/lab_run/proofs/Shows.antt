-- What `show` comes to.
use Rattle.std.proofs.Common.{ℕ, ◌≡◌, ◌⊎◌, inl, inr, Bool, ltb, List, Option, Some, None, Result, Ok, Err, refl, sym, ap, subst, ◌∙◌}
use Rattle.image_text.specs.UnitText.{units_text}
use Rattle.call_verdict.specs.Verdicts.{Cause, Done, IsRun, Refused, RunsOrWants, Verdict, Written, done_status, verdict_status}
use Rattle.call_verdict.specs.declared.status.Status.{Status}
use Rattle.call_verdict.specs.declared.status.Status.TheVariants as status
use Rattle.call_verdict.proofs.Verdicts.{done_is}
use Rattle.dix_base.specs.Stores.{StoreState, WasRead}
use Rattle.dix_base.specs.Told.{Rose}
use Rattle.dix_base.proofs.Counts.{never_rose}
use Rattle.image_blocks.specs.Blocks.{HasStretch}
use Rattle.image_blocks.specs.Images.{units_open}
use Rattle.image_blocks.specs.declared.image.Image.{Image}
use Rattle.image_text.specs.Shown.{ShowEnds, bad_of, text_of}
use Rattle.image_text.specs.declared.show.Tally.{Tally}
use Rattle.image_blocks.specs.declared.fault.WalkFault.{WalkFault}
use Rattle.image_blocks.specs.declared.fault.WalkFault.TheVariants as walk
use Rattle.lab_run.specs.declared.command.Command.TheVariants.{ShowBlocks, ShowUnits}
use Rattle.lab_run.specs.declared.place.PlaceWord.{PlaceWord}
use Rattle.rig_api.specs.State.{RigState}
use Rattle.rig_api.specs.declared.rig.RigFault.{RigFault}
use Rattle.rig_api.specs.declared.units.UnitSpec.{UnitSpec}
use Rattle.dix_base.proofs.Counts.{rose_later as rose_since}
use Rattle.call_verdict.specs.Words.{image_in}
use Rattle.lab_run.specs.Calls.{Facts, on_first}
use Rattle.lab_run.specs.Commands.{Came}
use Rattle.lab_run.specs.Images.{CauseUnfound, IsBadHead, IsFound, IsNoPlace, IsPlace, IsRightHead}
use Rattle.lab_run.specs.Keeping.{ReadsOnce}
use Rattle.lab_run.specs.Showing.{Blocks, CauseNotListed, CauseNotShown, HasShown, list_work, show_work, shown_status}
use Rattle.lab_run.specs.Telling.{AnswersImage, IsCalmFirst, RefusesImage}
use Rattle.lab_run.specs.Texts.{lab, no_memory, of_head, of_place}
use Rattle.lab_run.specs.declared.finding.Found.{Found}
use Rattle.lab_run.specs.declared.finding.Unfound.{Unfound}
use Rattle.lab_run.specs.declared.finding.Unfound.TheVariants as unfound
use Rattle.lab_run.specs.declared.refusal.Refusal.{Refusal}
use Rattle.lab_run.specs.declared.refusal.Refusal.TheVariants as refusal
use Rattle.lab_run.proofs.Openings.{Tried, has_since, no_place, opened_in, reads_first, reads_none, reads_on, tried_once, unbroken, unopened, unopened_right, unopened_wrong, wrong_head, wrong_place}

-- ---- the units of an image

pub unlisted : (words : List (List ℕ)) (old new : StoreState) (left : Option (List ℕ)) (reads : ℕ) (rig : RigState) (second : StoreState) (x : RigFault) (r : Refusal) (taken : Option (List ℕ)) (o : ℕ) → r ≡ of_head x → Tried (Err x) (image_in words) old new →
    Came (Some ShowUnits) (Err r) (on_first words old new left reads rig second) taken taken o o
unlisted words old new left reads rig second x r taken o e t =
    let f = on_first words old new left reads rig second in
    record {
      comes = (subst (λ (y : Refusal). CauseNotListed y f) (sym e) (unopened x (image_in words) old new t), refl, refl);
      kept = reads_first words old new left reads rig second (tried_once (Err x) (image_in words) old new t);
    }

pub listed : (words : List (List ℕ)) (old new : StoreState) (left : Option (List ℕ)) (reads : ℕ) (rig : RigState) (second : StoreState) (image : Image) (taken taken' : Option (List ℕ)) (o n : ℕ) (s : Status) → Tried (Ok image) (image_in words) old new → Written status.Whole (units_text (units_open image)) taken taken' o n s →
    Came (Some ShowUnits) (Ok s) (on_first words old new left reads rig second) taken taken' o n
listed words old new left reads rig second image taken taken' o n s t w = record {
  comes = (units_open image, opened_in image (image_in words) old new t, w);
  kept = reads_first words old new left reads rig second (tried_once (Ok image) (image_in words) old new t);
}

lists_right : (f : Facts) (v : Verdict Refusal (List UnitSpec)) → Cause lab list_work v f → (image : List ℕ) → f.first.bytes ≡ Some image → IsRightHead image → IsCalmFirst f → RunsOrWants (verdict_status lab list_work v)
lists_right f (Refused (refusal.Stopped s)) c image b h k = inr (unopened_right s (image_in f.words) f.first f.first_after image b h k c)
lists_right f (Refused _) c image b h k = absurd c
lists_right f (Done us) c image b h k = inl (inl refl)

lists_wrong : (f : Facts) (v : Verdict Refusal (List UnitSpec)) → Cause lab list_work v f → (image : List ℕ) → f.first.bytes ≡ Some image → IsBadHead image → IsCalmFirst f → RefusesImage (verdict_status lab list_work v)
lists_wrong f (Refused (refusal.Stopped s)) c image b h k = unopened_wrong s (image_in f.words) f.first f.first_after k c
lists_wrong f (Refused _) c image b h k = absurd c
lists_wrong f (Done us) c image b h k = absurd (wrong_head (image_in f.words) f.first f.first_after image us b c h)

pub lists : (f : Facts) (v : Verdict Refusal (List UnitSpec)) → Cause lab list_work v f → list_work.Answers f (verdict_status lab list_work v)
lists f v c = record { right = lists_right f v c; wrong = lists_wrong f v c }

-- ---- the blocks of a place

cause_unfound : (place : PlaceWord) (u : Unfound) (f : Facts) → CauseUnfound place u (image_in f.words) f.first f.first_after → CauseNotShown place (of_place u) f
cause_unfound place (unfound.Stopped s) f c = c
cause_unfound place (unfound.Place x) f c = c

pub unshown : (words : List (List ℕ)) (only_bad : Bool) (place : PlaceWord) (old new : StoreState) (left : Option (List ℕ)) (reads : ℕ) (rig : RigState) (second : StoreState) (u : Unfound) (r : Refusal) (taken : Option (List ℕ)) (o : ℕ) → r ≡ of_place u → CauseUnfound place u (image_in words) old new → ReadsOnce (image_in words) old new →
    Came (Some (ShowBlocks only_bad place)) (Err r) (on_first words old new left reads rig second) taken taken o o
unshown words only_bad place old new left reads rig second u r taken o e c k =
    let f = on_first words old new left reads rig second in
    record { comes = (subst (λ (y : Refusal). CauseNotShown place y f) (sym e) (cause_unfound place u f c), refl, refl); kept = reads_first words old new left reads rig second k }

-- want of memory for the blocks
pub spared : (words : List (List ℕ)) (only_bad : Bool) (place : PlaceWord) (h : StoreState) (left : Option (List ℕ)) (reads : ℕ) (rig : RigState) (second : StoreState) (r : Refusal) (taken : Option (List ℕ)) (o : ℕ) → r ≡ no_memory → Came (Some (ShowBlocks only_bad place)) (Err r) (on_first words h h left reads rig second) taken taken o o
spared words only_bad place h left reads rig second r taken o e =
    let f = on_first words h h left reads rig second in
    record { comes = (subst (λ (y : Refusal). CauseNotShown place y f) (sym e) tt, refl, refl); kept = reads_first words h h left reads rig second (reads_none (image_in words) h) }

pub shown : (words : List (List ℕ)) (only_bad : Bool) (place : PlaceWord) (old mid new : StoreState) (left : Option (List ℕ)) (reads : ℕ) (rig : RigState) (second : StoreState) (x : Found) (r : Result Tally WalkFault) (taken taken' : Option (List ℕ)) (o n : ℕ) (s : Status) →
    IsFound x place (image_in words) old mid → ReadsOnce (image_in words) old mid → WasRead mid new → ShowEnds r (text_of only_bad (units_open x.image) x.at) (units_open x.image) x.at mid.bytes mid.faults new.faults o n taken taken' → ((r ≡ Err walk.Sink → ⊥) → n ≡ o) → s ≡ shown_status r →
    Came (Some (ShowBlocks only_bad place)) (Ok s) (on_first words old new left reads rig second) taken taken' o n
shown words only_bad place old mid new left reads rig second x (Ok tally) taken taken' o n s h k g e calm w = record {
  comes = (
    record { units = units_open x.image; at = x.at; blocks = e.blocks; broken = None },
    record { first = has_since (units_open x.image) x.at place (image_in words) old mid new g.named g.opened h.has; has = subst (λ (b : Option (List ℕ)). HasStretch (units_open x.image) x.at e.blocks b) k.same e.has; ends = tt },
    inl (w ∙ ap (λ (m : ℕ). done_status (ltb 0 m)) e.bad, e.written, calm (λ z. absurd (cc))),
  );
  kept = reads_first words old new left reads rig second (reads_on (image_in words) old mid new k g);
}
shown words only_bad place old mid new left reads rig second x (Err walk.Store) taken taken' o n s h k g e calm w = record {
  comes = (
    record { units = units_open x.image; at = x.at; blocks = e.1.blocks; broken = Some e.1.written.0 },
    record {
      first = has_since (units_open x.image) x.at place (image_in words) old mid new g.named g.opened h.has;
      has = subst (λ (b : Option (List ℕ)). HasStretch (units_open x.image) x.at e.1.blocks b) k.same e.1.has;
      ends = rose_since old.faults mid.faults new.faults k.count e.0;
    },
    inl (w, e.1.written.1, calm (λ z. absurd (cc))),
  );
  kept = reads_first words old new left reads rig second (reads_on (image_in words) old mid new k g);
}
shown words only_bad place old mid new left reads rig second x (Err walk.Sink) taken taken' o n s h k g e calm w = record {
  comes = (
    record { units = units_open x.image; at = x.at; blocks = e.1.blocks; broken = None },
    record { first = has_since (units_open x.image) x.at place (image_in words) old mid new g.named g.opened h.has; has = subst (λ (b : Option (List ℕ)). HasStretch (units_open x.image) x.at e.1.blocks b) k.same e.1.has; ends = tt },
    inr (w, e.0, e.1.written),
  );
  kept = reads_first words old new left reads rig second (reads_on (image_in words) old mid new k g);
}

shows_right : (only_bad : Bool) (place : PlaceWord) (f : Facts) (v : Verdict Refusal Blocks) → Cause lab (show_work only_bad place) v f → (image : List ℕ) → f.first.bytes ≡ Some image → IsRightHead image × IsPlace place image → IsCalmFirst f → RunsOrWants (verdict_status lab (show_work only_bad place) v)
shows_right only_bad place f (Refused (refusal.Stopped s)) c image b h k = inr (unopened_right s (image_in f.words) f.first f.first_after image b h.0 k c)
shows_right only_bad place f (Refused (refusal.Place x)) c image b h k = absurd (no_place (image_in f.words) f.first f.first_after image place x h.1.0 b h.1.1 c)
shows_right only_bad place f (Refused _) c image b h k = absurd c
shows_right only_bad place f (Done x) c image b h k =
    let whole : Status = done_status (ltb 0 (bad_of x.units x.at x.blocks)) in
    inl (subst IsRun (sym (unbroken (Rose f.first.faults f.first_after.faults) x.broken status.RigFault whole c.ends (never_rose f.first.faults f.first_after.faults k))) (done_is (ltb 0 (bad_of x.units x.at x.blocks))))

shows_wrong : (only_bad : Bool) (place : PlaceWord) (f : Facts) (v : Verdict Refusal Blocks) → Cause lab (show_work only_bad place) v f → (image : List ℕ) → f.first.bytes ≡ Some image → IsBadHead image ⊎ IsNoPlace place image → IsCalmFirst f → RefusesImage (verdict_status lab (show_work only_bad place) v)
shows_wrong only_bad place f (Refused (refusal.Stopped s)) c image b h k = unopened_wrong s (image_in f.words) f.first f.first_after k c
shows_wrong only_bad place f (Refused (refusal.Place x)) c image b h k = inl refl
shows_wrong only_bad place f (Refused _) c image b h k = absurd c
shows_wrong only_bad place f (Done x) c image b (inl h) k = absurd (wrong_head (image_in f.words) f.first f.first_after image x.units b c.first.opened h)
shows_wrong only_bad place f (Done x) c image b (inr h) k = absurd (wrong_place (image_in f.words) f.first f.first_after image x.units x.at place b c.first h)

pub shows : (only_bad : Bool) (place : PlaceWord) (f : Facts) (v : Verdict Refusal Blocks) → Cause lab (show_work only_bad place) v f → (show_work only_bad place).Answers f (verdict_status lab (show_work only_bad place) v)
shows only_bad place f v c = record { right = shows_right only_bad place f v c; wrong = shows_wrong only_bad place f v c }
