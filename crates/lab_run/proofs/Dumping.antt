-- What `export` and `import` come to.
use Rattle.std.proofs.Common.{ℕ, ◌≡◌, ◌+◌, ◌*◌, ◌<◌, ◌≤◌, ◌⊎◌, inl, inr, Bool, true, false, List, [], ◌∷◌, ◌++◌, length, Option, Some, None, Result, Ok, Err, refl, sym, ap, subst, ◌∙◌, arith, length-append, take}
use Rattle.std.proofs.lemmas.List.{take-take}
use Rattle.std.proofs.Math.Nat.{mul-le-mul_left, mul_comm}
use Rattle.call_refusal.specs.declared.refusal.Refusal.{Refusal as Stop}
use Rattle.call_refusal.specs.declared.refusal.Refusal.TheVariants as stop
use Rattle.call_verdict.specs.Verdicts.{Cause, Done, IsRun, Refused, RunsOrWants, Verdict, Written, verdict_status}
use Rattle.call_verdict.specs.declared.status.Status.{Status}
use Rattle.call_verdict.specs.declared.status.Status.TheVariants as status
use Rattle.dix_base.specs.Told.{Becomes, HasLength, IsAtEnd, Rose}
use Rattle.dix_base.specs.Stores.{StoreState, WasRead, WasWritten}
use Rattle.dix_base.proofs.Counts.{never_rose}
use Rattle.image_blocks.specs.Blocks.{HasStretch, blocks_at}
use Rattle.image_blocks.specs.Images.{units_open}
use Rattle.image_blocks.specs.Places.{spec_of}
use Rattle.image_blocks.specs.declared.stretch.PlaceFault.{PlaceFault}
use Rattle.image_blocks.specs.declared.stretch.Stretch.{Stretch}
use Rattle.image_rig.specs.LayoutPlaces.{block_place}
use Rattle.image_text.specs.Dumps.{fits, imported, piece_len}
use Rattle.image_text.specs.Ends.{DumpEnds, HasTaken, ImportEnds, IsShort, KeepsOutside, dump_in, imported_in}
use Rattle.image_blocks.specs.declared.fault.WalkFault.{WalkFault}
use Rattle.image_blocks.specs.declared.fault.WalkFault.TheVariants as walk
use Rattle.image_text.specs.declared.dumps_fault.ImportFault.{ImportFault}
use Rattle.image_text.specs.declared.dumps_fault.ImportFault.TheVariants as halt
use Rattle.lab_run.specs.declared.command.Command.TheVariants.{Export, Import}
use Rattle.image_text.specs.declared.layout.Layout.{Layout}
use Rattle.lab_run.specs.declared.place.PlaceWord.{PlaceWord}
use Rattle.pi_tuple.specs.declared.checks.PiType.{PiType}
use Rattle.rig_api.specs.Head.{head_of, units_of}
use Rattle.rig_api.specs.State.{RigState}
use Rattle.rig_api.specs.Frames.{joined}
use Rattle.rig_api.specs.Image.{units_in}
use Rattle.rig_api.specs.declared.units.UnitSpec.{UnitSpec}
use Rattle.target_model.specs.Served.{AllLong}
use Rattle.dix_base.proofs.Counts.{rose_later as rose_since}
use Rattle.call_verdict.specs.Words.{image_in}
use Rattle.lab_run.specs.Calls.{Facts, on_first, on_input, stretch_in}
use Rattle.lab_run.specs.Commands.{Came}
use Rattle.lab_run.specs.Dumping.{AreOthersKept, CauseNotExported, CauseNotImported, DumpTaken, HasBrokenOff, HasFound, HasNoTuples, Imported, IsFitPlace, IsNoDump, IsNoTuples, IsOtherLength, IsOtherSize, IsReady, IsRightDump, IsUntouched, IsWrongDump, KeepsAround, KeepsHead, WritesPlace, dump_len, dumped_status, export_work, import_work}
use Rattle.lab_run.specs.Images.{CauseNotOpened, CauseUnfound, CauseUnopened, HasFirst, HasPlace, IsBadHead, IsFound, IsRightHead}
use Rattle.lab_run.specs.Keeping.{ReadsOnce}
use Rattle.lab_run.specs.Showing.{Blocks}
use Rattle.lab_run.specs.Telling.{IsCalmFirst, RefusesImage, RefusesInput}
use Rattle.lab_run.specs.Texts.{imported_text, lab, no_memory, of_import, of_place}
use Rattle.lab_run.specs.declared.finding.Found.{Found}
use Rattle.lab_run.specs.declared.finding.Unfound.{Unfound}
use Rattle.lab_run.specs.declared.finding.Unfound.TheVariants as unfound
use Rattle.lab_run.specs.declared.refusal.Refusal.{Refusal}
use Rattle.lab_run.specs.declared.refusal.Refusal.TheVariants as refusal
use Rattle.lab_run.proofs.Openings.{has_since, no_place, reads_first, reads_none, reads_on, same_place, unbroken, units_told, unopened_right, unopened_wrong, wrong_head, wrong_place}

-- ---- an image that isn't opened, or hasn't what the words ask for

no_tuples : (x : Found) (place : PlaceWord) (layout : Layout) (f : Facts) (b : Bool) → HasPlace (units_open x.image) x.at place (image_in f.words) f.first f.first_after → b ≡ fits layout (spec_of (units_open x.image) x.at.dev).ty → b ≡ false → HasNoTuples place layout f
no_tuples x place layout f b h q z = record { units = units_open x.image; at = x.at; first = h; judged = sym q ∙ z }

unexported_by : (place : PlaceWord) (layout : Layout) (u : Unfound) (f : Facts) → CauseUnfound place u (image_in f.words) f.first f.first_after → CauseNotExported place layout (of_place u) f
unexported_by place layout (unfound.Stopped s) f c = c
unexported_by place layout (unfound.Place x) f c = c

unexported : (words : List (List ℕ)) (place : PlaceWord) (layout : Layout) (old new : StoreState) (left : Option (List ℕ)) (reads : ℕ) (rig : RigState) (second : StoreState) (r : Refusal) (taken : Option (List ℕ)) (o : ℕ) → CauseNotExported place layout r (on_first words old new left reads rig second) → ReadsOnce (image_in words) old new →
    Came (Some (Export place layout)) (Err r) (on_first words old new left reads rig second) taken taken o o
unexported words place layout old new left reads rig second r taken o c k = record { comes = (c, refl, refl); kept = reads_first words old new left reads rig second k }

pub unfound_export : (words : List (List ℕ)) (place : PlaceWord) (layout : Layout) (old new : StoreState) (left : Option (List ℕ)) (reads : ℕ) (rig : RigState) (second : StoreState) (u : Unfound) (r : Refusal) (taken : Option (List ℕ)) (o : ℕ) → r ≡ of_place u → CauseUnfound place u (image_in words) old new → ReadsOnce (image_in words) old new →
    Came (Some (Export place layout)) (Err r) (on_first words old new left reads rig second) taken taken o o
unfound_export words place layout old new left reads rig second u r taken o e c k =
    let f = on_first words old new left reads rig second in
    unexported words place layout old new left reads rig second r taken o (subst (λ (y : Refusal). CauseNotExported place layout y f) (sym e) (unexported_by place layout u f c)) k

pub spared_export : (words : List (List ℕ)) (place : PlaceWord) (layout : Layout) (h : StoreState) (left : Option (List ℕ)) (reads : ℕ) (rig : RigState) (second : StoreState) (r : Refusal) (taken : Option (List ℕ)) (o : ℕ) → r ≡ no_memory → Came (Some (Export place layout)) (Err r) (on_first words h h left reads rig second) taken taken o o
spared_export words place layout h left reads rig second r taken o e =
    let f = on_first words h h left reads rig second in
    unexported words place layout h h left reads rig second r taken o (subst (λ (y : Refusal). CauseNotExported place layout y f) (sym e) tt) (reads_none (image_in words) h)

pub unfit_export : (words : List (List ℕ)) (place : PlaceWord) (layout : Layout) (old new : StoreState) (left : Option (List ℕ)) (reads : ℕ) (rig : RigState) (second : StoreState) (x : Found) (b : Bool) (taken : Option (List ℕ)) (o : ℕ) → IsFound x place (image_in words) old new → ReadsOnce (image_in words) old new →
    b ≡ fits layout (spec_of (units_open x.image) x.at.dev).ty → b ≡ false → Came (Some (Export place layout)) (Err refusal.NoTuples) (on_first words old new left reads rig second) taken taken o o
unfit_export words place layout old new left reads rig second x b taken o h k q z =
    unexported words place layout old new left reads rig second refusal.NoTuples taken o (no_tuples x place layout (on_first words old new left reads rig second) b h.has q z) k

untouched : (words : List (List ℕ)) (old new : StoreState) (left : Option (List ℕ)) (reads : ℕ) (rig : RigState) (second : StoreState) → new.bytes ≡ old.bytes → IsUntouched (on_first words old new left reads rig second)
untouched words old new left reads rig second b = record { bytes = b; left = refl; reads = refl }

unopened_import : (place : PlaceWord) (layout : Layout) (s : Stop) (f : Facts) → CauseUnopened s (image_in f.words) f.first f.first_after → IsUntouched f → CauseNotImported place layout (refusal.Stopped s) f
unopened_import place layout (stop.Script bad) f c u = absurd c
unopened_import place layout (stop.Image x) f c u = (c, u)
unopened_import place layout (stop.BadCapacity dev) f c u = absurd c
unopened_import place layout (stop.Volume entry kind) f c u = absurd c
unopened_import place layout stop.RigFault f c u = inl (c, u)
unopened_import place layout stop.Memory f c u = (c, u)
unopened_import place layout stop.ReadFault f c u = absurd c

unimported_by : (place : PlaceWord) (layout : Layout) (x : Unfound) (f : Facts) → CauseUnfound place x (image_in f.words) f.first f.first_after → IsUntouched f → CauseNotImported place layout (of_place x) f
unimported_by place layout (unfound.Stopped s) f c u = unopened_import place layout s f c u
unimported_by place layout (unfound.Place x) f c u = (c, u)

unimported : (words : List (List ℕ)) (place : PlaceWord) (layout : Layout) (old new : StoreState) (left : Option (List ℕ)) (reads : ℕ) (rig : RigState) (second : StoreState) (r : Refusal) (taken : Option (List ℕ)) (o : ℕ) → CauseNotImported place layout r (on_first words old new left reads rig second) → ReadsOnce (image_in words) old new →
    Came (Some (Import place layout)) (Err r) (on_first words old new left reads rig second) taken taken o o
unimported words place layout old new left reads rig second r taken o c k = record { comes = (c, refl, refl); kept = record { source = omega arith; rig = refl; image = inl k.same; opening = k.opening; count = k.count; second = refl } }

pub unfound_import : (words : List (List ℕ)) (place : PlaceWord) (layout : Layout) (old new : StoreState) (left : Option (List ℕ)) (reads : ℕ) (rig : RigState) (second : StoreState) (u : Unfound) (r : Refusal) (taken : Option (List ℕ)) (o : ℕ) → r ≡ of_place u → CauseUnfound place u (image_in words) old new → ReadsOnce (image_in words) old new →
    Came (Some (Import place layout)) (Err r) (on_first words old new left reads rig second) taken taken o o
unfound_import words place layout old new left reads rig second u r taken o e c k =
    let f = on_first words old new left reads rig second in
    unimported words place layout old new left reads rig second r taken o (subst (λ (y : Refusal). CauseNotImported place layout y f) (sym e) (unimported_by place layout u f c (untouched words old new left reads rig second k.same))) k

pub spared_import : (words : List (List ℕ)) (place : PlaceWord) (layout : Layout) (h : StoreState) (left : Option (List ℕ)) (reads : ℕ) (rig : RigState) (second : StoreState) (r : Refusal) (taken : Option (List ℕ)) (o : ℕ) → r ≡ no_memory → Came (Some (Import place layout)) (Err r) (on_first words h h left reads rig second) taken taken o o
spared_import words place layout h left reads rig second r taken o e =
    let f = on_first words h h left reads rig second in
    unimported words place layout h h left reads rig second r taken o (subst (λ (y : Refusal). CauseNotImported place layout y f) (sym e) (tt, untouched words h h left reads rig second refl)) (reads_none (image_in words) h)

pub unfit_import : (words : List (List ℕ)) (place : PlaceWord) (layout : Layout) (old new : StoreState) (left : Option (List ℕ)) (reads : ℕ) (rig : RigState) (second : StoreState) (x : Found) (b : Bool) (taken : Option (List ℕ)) (o : ℕ) → IsFound x place (image_in words) old new → ReadsOnce (image_in words) old new →
    b ≡ fits layout (spec_of (units_open x.image) x.at.dev).ty → b ≡ false → Came (Some (Import place layout)) (Err refusal.NoTuples) (on_first words old new left reads rig second) taken taken o o
unfit_import words place layout old new left reads rig second x b taken o h k q z =
    unimported words place layout old new left reads rig second refusal.NoTuples taken o
    (no_tuples x place layout (on_first words old new left reads rig second) b h.has q z, untouched words old new left reads rig second k.same) k

-- a source that is known to have other bytes
pub unsized : (words : List (List ℕ)) (place : PlaceWord) (layout : Layout) (old new : StoreState) (left : Option (List ℕ)) (reads : ℕ) (rig : RigState) (second : StoreState) (x : Found) (r : Refusal) (taken : Option (List ℕ)) (o : ℕ) → IsFound x place (image_in words) old new → ReadsOnce (image_in words) old new →
    fits layout (spec_of (units_open x.image) x.at.dev).ty ≡ true → IsOtherSize r left (dump_len (units_open x.image) x.at layout) → Came (Some (Import place layout)) (Err r) (on_first words old new left reads rig second) taken taken o o
unsized words place layout old new left reads rig second x (refusal.Size has wanted) taken o h k z c =
    unimported words place layout old new left reads rig second (refusal.Size has wanted) taken o
    (record { units = units_open x.image; at = x.at; found = record { first = h.has; fits = z }; told = c.0; asked = c.1; other = c.2; untouched = untouched words old new left reads rig second k.same }) k
unsized words place layout old new left reads rig second x _ taken o h k z c = absurd c

-- ---- blocks that are exported

found_since : (x : Found) (place : PlaceWord) (layout : Layout) (name : List ℕ) (old mid new : StoreState) → new.handed ≡ mid.handed → new.openings ≡ mid.openings → IsFound x place name old mid → HasPlace (units_open x.image) x.at place name old new
found_since x place layout name old mid new n k h = has_since (units_open x.image) x.at place name old mid new n k h.has

pub exported : (words : List (List ℕ)) (place : PlaceWord) (layout : Layout) (old mid new : StoreState) (left : Option (List ℕ)) (reads : ℕ) (rig : RigState) (second : StoreState) (x : Found) (r : Result (Unit {0}) WalkFault) (taken taken' : Option (List ℕ)) (o n : ℕ) (s : Status) →
    IsFound x place (image_in words) old mid → ReadsOnce (image_in words) old mid → WasRead mid new → fits layout (spec_of (units_open x.image) x.at.dev).ty ≡ true → DumpEnds r layout (units_open x.image) x.at mid.bytes mid.faults new.faults o n taken taken' → ((r ≡ Err walk.Sink → ⊥) → n ≡ o) → s ≡ dumped_status r →
    Came (Some (Export place layout)) (Ok s) (on_first words old new left reads rig second) taken taken' o n
exported words place layout old mid new left reads rig second x (Ok y) taken taken' o n s h k g z e calm w = record {
  comes = (
    record { units = units_open x.image; at = x.at; blocks = e.blocks; broken = None },
    record {
      found = record { first = found_since x place layout (image_in words) old mid new g.named g.opened h; fits = z };
      has = subst (λ (b : Option (List ℕ)). HasStretch (units_open x.image) x.at e.blocks b) k.same e.has;
      ends = tt;
    },
    inl (w, e.written, calm (λ v. absurd (cc))),
  );
  kept = reads_first words old new left reads rig second (reads_on (image_in words) old mid new k g);
}
exported words place layout old mid new left reads rig second x (Err walk.Store) taken taken' o n s h k g z e calm w = record {
  comes = (
    record { units = units_open x.image; at = x.at; blocks = e.1.blocks; broken = Some e.1.written.0 },
    record {
      found = record { first = found_since x place layout (image_in words) old mid new g.named g.opened h; fits = z };
      has = subst (λ (b : Option (List ℕ)). HasStretch (units_open x.image) x.at e.1.blocks b) k.same e.1.has;
      ends = rose_since old.faults mid.faults new.faults k.count e.0;
    },
    inl (w, e.1.written.1, calm (λ v. absurd (cc))),
  );
  kept = reads_first words old new left reads rig second (reads_on (image_in words) old mid new k g);
}
exported words place layout old mid new left reads rig second x (Err walk.Sink) taken taken' o n s h k g z e calm w = record {
  comes = (
    record { units = units_open x.image; at = x.at; blocks = e.1.blocks; broken = None },
    record {
      found = record { first = found_since x place layout (image_in words) old mid new g.named g.opened h; fits = z };
      has = subst (λ (b : Option (List ℕ)). HasStretch (units_open x.image) x.at e.1.blocks b) k.same e.1.has;
      ends = tt;
    },
    inr (w, e.0, e.1.written),
  );
  kept = reads_first words old new left reads rig second (reads_on (image_in words) old mid new k g);
}

-- ---- blocks that are imported

-- the store as the image was opened, and after blocks of a stretch were written, and the source before and after
pub record Writes (us : List UnitSpec) (at : Stretch) (mid new : StoreState) (reads reads_after : ℕ) : Type 0 where
  pub apart : KeepsOutside us at mid.bytes new.bytes
  pub store : WasWritten mid new
  pub sources : reads ≤ reads_after

becomes : {P Q : List ℕ → List ℕ → Type 0} (a b : Option (List ℕ)) → ((x y : List ℕ) → P x y → Q x y) → Becomes P a b → Becomes Q a b
becomes None None h p = tt
becomes (Some x) (Some y) h p = h x y p
becomes None (Some y) h p = absurd p
becomes (Some x) None h p = absurd p

imported_few : (layout : Layout) (ty : PiType) (size lba : ℕ) (blocks pieces : List (List ℕ)) → length (imported layout ty size lba blocks pieces) ≤ length pieces
imported_few layout ty size lba [] pieces = omega arith
imported_few layout ty size lba (b ∷ bs) [] = omega arith
imported_few layout ty size lba (b ∷ bs) (p ∷ ps) = let h = imported_few layout ty size (lba + 1) bs ps in omega (arith, h)

others_kept : (layout : Layout) (us : List UnitSpec) (at : Stretch) (n : ℕ) (more : List ℕ) (others : List (List ℕ)) (image image_after left left_after : Option (List ℕ)) → n + length others ≤ at.count → HasTaken layout us at n more others image image_after left left_after →
    AreOthersKept us at image image_after
others_kept layout us at n more others image image_after left left_after h t =
    becomes image image_after (λ was is p.
    let new = imported_in layout us at (units_in us was) t.pieces in (
      new ++ others,
      (
          let few = imported_few layout (spec_of us at.dev).ty (spec_of us at.dev).size at.first (blocks_at (units_in us was) at) t.pieces in
          omega (arith, few, t.many, h, length-append new others)),
      p,
    )) t.put

kept_by : (result : Result ℕ ImportFault) (layout : Layout) (us : List UnitSpec) (at : Stretch) (most o m p q : ℕ) (image image_after left left_after : Option (List ℕ)) → ImportEnds result layout us at most o m p q image image_after left left_after → AreOthersKept us at image image_after
kept_by (Ok n) layout us at most o m p q image image_after left left_after e = others_kept layout us at n [] [] image image_after left left_after (omega (arith, e.0)) e.1
kept_by (Err (halt.Short n)) layout us at most o m p q image image_after left left_after e = others_kept layout us at n e.more [] image image_after left left_after (omega (arith, e.few)) e.has
kept_by (Err halt.Long) layout us at most o m p q image image_after left left_after e = others_kept layout us at at.count (e.0 ∷ []) [] image image_after left left_after (omega arith) e.1
kept_by (Err halt.Store) layout us at most o m p q image image_after left left_after e = others_kept layout us at e.1.n e.1.more e.1.others image image_after left left_after e.1.few e.1.has
kept_by (Err halt.Source) layout us at most o m p q image image_after left left_after e = others_kept layout us at e.1.n e.1.more [] image image_after left left_after (omega (arith, e.1.few)) e.1.has

-- the head lies outside of each place
head_kept : (us : List UnitSpec) (at : Stretch) (image image_after : Option (List ℕ)) → KeepsOutside us at image image_after → KeepsHead image image_after
head_kept us at image image_after p =
    let place : ℕ = block_place us at.dev at.first in
    let low : 512 ≤ place = omega arith in
    becomes image image_after (λ was is q. sym (take-take 512 place is low) ∙ ap (take 512) q.1 ∙ take-take 512 place was low) p

-- what an import leaves
taken_by : (words : List (List ℕ)) (place : PlaceWord) (layout : Layout) (most : ℕ) (old mid new : StoreState) (left left_after : Option (List ℕ)) (reads reads_after : ℕ) (rig : RigState) (second : StoreState) (x : Found) (r : Result ℕ ImportFault) →
    most ≡ 65536 → IsFound x place (image_in words) old mid → ReadsOnce (image_in words) old mid → Writes (units_open x.image) x.at mid new reads reads_after → fits layout (spec_of (units_open x.image) x.at.dev).ty ≡ true →
    ImportEnds r layout (units_open x.image) x.at most mid.faults new.faults reads reads_after mid.bytes new.bytes left left_after → DumpTaken r (units_open x.image) x.at place layout (on_input words old new left left_after reads reads_after rig second)
taken_by words place layout most old mid new left left_after reads reads_after rig second x r me h k g z s = record {
  found = record { first = found_since x place layout (image_in words) old mid new g.store.named g.store.opened h; fits = z };
  len = g.store.length ∙ h.held;
  opened_faults = mid.faults;
  since = k.count;
  ends =
      (let b = subst (λ (m : ℕ). ImportEnds r layout (units_open x.image) x.at m mid.faults new.faults reads reads_after mid.bytes new.bytes left left_after) me s in
      subst (λ (v : Option (List ℕ)). ImportEnds r layout (units_open x.image) x.at 65536 mid.faults new.faults reads reads_after v new.bytes left left_after) k.same b);
}

writes : (words : List (List ℕ)) (place : PlaceWord) (layout : Layout) (old mid new : StoreState) (left left_after : Option (List ℕ)) (reads reads_after : ℕ) (rig : RigState) (second : StoreState) (us : List UnitSpec) (at : Stretch) (r : Result ℕ ImportFault) → ReadsOnce (image_in words) old mid → Writes us at mid new reads reads_after →
    DumpTaken r us at place layout (on_input words old new left left_after reads reads_after rig second) → WritesPlace place (on_input words old new left left_after reads reads_after rig second)
writes words place layout old mid new left left_after reads reads_after rig second us at r k g d =
    let outside : KeepsOutside us at old.bytes new.bytes = subst (λ (x : Option (List ℕ)). KeepsOutside us at x new.bytes) k.same g.apart in
    record {
      source = g.sources;
      rig = refl;
      image = inr (record {
        units = us;
        at = at;
        first = d.found.first;
        others = kept_by r layout us at 65536 d.opened_faults new.faults reads reads_after old.bytes new.bytes left left_after d.ends;
        outside = outside;
        head = head_kept us at old.bytes new.bytes outside;
      });
      opening = rw (g.store.named, g.store.opened) k.opening;
      count = (let a = k.count in let b = g.store.count in omega (arith, a, b));
      second = refl;
    }

pub imports : (words : List (List ℕ)) (place : PlaceWord) (layout : Layout) (most : ℕ) (old mid new : StoreState) (left left_after : Option (List ℕ)) (reads reads_after : ℕ) (rig : RigState) (second : StoreState) (x : Found) (count : ℕ) (text : List ℕ) (taken taken' : Option (List ℕ)) (o n : ℕ) (s : Status) →
    most ≡ 65536 → IsFound x place (image_in words) old mid → ReadsOnce (image_in words) old mid → Writes (units_open x.image) x.at mid new reads reads_after → fits layout (spec_of (units_open x.image) x.at.dev).ty ≡ true →
    ImportEnds (Ok count) layout (units_open x.image) x.at most mid.faults new.faults reads reads_after mid.bytes new.bytes left left_after → text ≡ imported_text count → Written status.Whole text taken taken' o n s →
    Came (Some (Import place layout)) (Ok s) (on_input words old new left left_after reads reads_after rig second) taken taken' o n
imports words place layout most old mid new left left_after reads reads_after rig second x count text taken taken' o n s me h k g z e t w =
    let d = taken_by words place layout most old mid new left left_after reads reads_after rig second x (Ok count) me h k g z e in
    record {
      comes = (record { units = units_open x.image; at = x.at; count = count }, d, subst (λ (y : List ℕ). Written status.Whole y taken taken' o n s) t w);
      kept = writes words place layout old mid new left left_after reads reads_after rig second (units_open x.image) x.at (Ok count) k g d;
    }

broken : (x : ImportFault) (place : PlaceWord) (layout : Layout) (f : Facts) → HasBrokenOff x place layout f → CauseNotImported place layout (of_import x) f
broken (halt.Short pieces) place layout f b = b
broken halt.Long place layout f b = b
broken halt.Store place layout f b = inr b
broken halt.Source place layout f b = b

pub halts : (words : List (List ℕ)) (place : PlaceWord) (layout : Layout) (most : ℕ) (old mid new : StoreState) (left left_after : Option (List ℕ)) (reads reads_after : ℕ) (rig : RigState) (second : StoreState) (x : Found) (y : ImportFault) (r : Refusal) (taken : Option (List ℕ)) (o : ℕ) →
    most ≡ 65536 → IsFound x place (image_in words) old mid → ReadsOnce (image_in words) old mid → Writes (units_open x.image) x.at mid new reads reads_after → fits layout (spec_of (units_open x.image) x.at.dev).ty ≡ true →
    ImportEnds (Err y) layout (units_open x.image) x.at most mid.faults new.faults reads reads_after mid.bytes new.bytes left left_after → r ≡ of_import y → Came (Some (Import place layout)) (Err r) (on_input words old new left left_after reads reads_after rig second) taken taken o o
halts words place layout most old mid new left left_after reads reads_after rig second x y r taken o me h k g z e t =
    let f = on_input words old new left left_after reads reads_after rig second in
    let d = taken_by words place layout most old mid new left left_after reads reads_after rig second x (Err y) me h k g z e in
    record {
      comes = (subst (λ (u : Refusal). CauseNotImported place layout u f) (sym t) (broken y place layout f (record { units = units_open x.image; at = x.at; taken = d })), refl, refl);
      kept = writes words place layout old mid new left left_after reads reads_after rig second (units_open x.image) x.at (Err y) k g d;
    }

-- ---- lengths of dumps

joined_long : (len : ℕ) (pieces : List (List ℕ)) → AllLong len pieces → length (joined pieces) ≡ length pieces * len
joined_long len [] h = omega arith
joined_long len (p ∷ ps) h = let a = joined_long len ps h.1 in let b = length-append p (joined ps) in let c = h.0 in grind (arith, a, b, c)

-- what was told before of a source, by what came
pub took_long : (layout : Layout) (us : List UnitSpec) (at : Stretch) (n : ℕ) (more : List ℕ) (others : List (List ℕ)) (image image_after left left_after : Option (List ℕ)) (dump : List ℕ) → left ≡ Some dump → HasTaken layout us at n more others image image_after left left_after →
    (rest : List ℕ) × (left_after ≡ Some rest) × (length dump ≡ n * piece_len layout (spec_of us at.dev).ty (spec_of us at.dev).size + (length more + length rest))
took_long layout us at n more others image image_after None left_after dump e t = absurd (cc)
took_long layout us at n more others image image_after (Some was) None dump e t = absurd t.taken
took_long layout us at n more others image image_after (Some was) (Some rest) dump e t =
    let len : ℕ = piece_len layout (spec_of us at.dev).ty (spec_of us at.dev).size in
    let same : was ≡ dump = cc in
    let whole : length dump ≡ length (joined t.pieces ++ more) + length rest = ap length (sym same ∙ t.taken) ∙ length-append (joined t.pieces ++ more) rest in
    let two : length (joined t.pieces ++ more) ≡ length (joined t.pieces) + length more = length-append (joined t.pieces) more in
    let all : length (joined t.pieces) ≡ n * len = joined_long len t.pieces t.long ∙ ap (λ (k : ℕ). k * len) t.many in
    (rest, refl, omega (arith, whole, two, all))

at_end : (rest : List ℕ) (left_after : Option (List ℕ)) → left_after ≡ Some rest → IsAtEnd left_after → length rest ≡ 0
at_end rest None e h = absurd (cc)
at_end rest (Some xs) e h = let k : xs ≡ rest = cc in ap length (sym k ∙ h)

pub whole_long : (layout : Layout) (us : List UnitSpec) (at : Stretch) (n most o m p q : ℕ) (image image_after left left_after : Option (List ℕ)) (dump : List ℕ) → left ≡ Some dump → ImportEnds (Ok n) layout us at most o m p q image image_after left left_after →
    length dump ≡ at.count * piece_len layout (spec_of us at.dev).ty (spec_of us at.dev).size
whole_long layout us at n most o m p q image image_after left left_after dump e s =
    let len : ℕ = piece_len layout (spec_of us at.dev).ty (spec_of us at.dev).size in
    let t = took_long layout us at n [] [] image image_after left left_after dump e s.1 in
    let z = at_end t.0 left_after t.1 s.2 in
    let c : n * len ≡ at.count * len = ap (λ (k : ℕ). k * len) s.0 in
    omega (arith, t.2, z, c)

short_less : (n count len more : ℕ) → n < count → more < len → n * len + more < count * len
short_less n count len more h k = let a : len * (n + 1) ≤ len * count = mul-le-mul_left len (omega (arith, h)) in let b = mul_comm len count in let c : len * (n + 1) ≡ n * len + len = grind arith in omega (arith, a, b, c, k)

pub short_other : (layout : Layout) (us : List UnitSpec) (at : Stretch) (n : ℕ) (image image_after left left_after : Option (List ℕ)) → IsShort layout us at n image image_after left left_after → IsOtherLength us at layout left
short_other layout us at n image image_after None left_after s = tt
short_other layout us at n image image_after (Some dump) left_after s = λ e.
    let len : ℕ = piece_len layout (spec_of us at.dev).ty (spec_of us at.dev).size in
    let t = took_long layout us at n s.more [] image image_after (Some dump) left_after dump refl s.has in
    let z = at_end t.0 left_after t.1 s.end in
    let less = short_less n at.count len (length s.more) s.few s.less in
    omega (arith, t.2, z, less, e)

pub long_other : (layout : Layout) (us : List UnitSpec) (at : Stretch) (byte : ℕ) (image image_after left left_after : Option (List ℕ)) → HasTaken layout us at at.count (byte ∷ []) [] image image_after left left_after → IsOtherLength us at layout left
long_other layout us at byte image image_after None left_after s = tt
long_other layout us at byte image image_after (Some dump) left_after s = λ e.
    let t = took_long layout us at at.count (byte ∷ []) [] image image_after (Some dump) left_after dump refl s in
    omega (arith, t.2, e)

-- ---- images and dumps that are told

-- a layout that fits a place doesn't lack its tuples
two_fits : (f : Facts) (image : List ℕ) (place : PlaceWord) (layout : Layout) (at : Stretch) → f.first.bytes ≡ Some image → stretch_in (units_of (head_of image)) place ≡ Ok at → fits layout (spec_of (units_of (head_of image)) at.dev).ty ≡ true → HasNoTuples place layout f → ⊥
two_fits f image place layout at b k z c =
    let units = units_told (image_in f.words) f.first f.first_after image c.units b c.first.opened in
    let here = same_place (image_in f.words) f.first f.first_after image c.units place at c.at b c.first k in
    let e : fits layout (spec_of (units_of (head_of image)) at.dev).ty ≡ false = subst (λ (s : Stretch). fits layout (spec_of (units_of (head_of image)) s.dev).ty ≡ false) here (subst (λ (u : List UnitSpec). fits layout (spec_of u c.at.dev).ty ≡ false) units c.judged) in
    let both : true ≡ false = sym z ∙ e in
    absurd (cc)

-- an image that was opened, with the place and what the layout holds, isn't at fault for a dump
no_fault : (f : Facts) (image : List ℕ) (us : List UnitSpec) (at : Stretch) (place : PlaceWord) (layout : Layout) → f.first.bytes ≡ Some image → HasFound us at place layout f → IsNoDump place layout image → ⊥
no_fault f image us at place layout b h (inl w) = wrong_head (image_in f.words) f.first f.first_after image us b h.first.opened w
no_fault f image us at place layout b h (inr (inl w)) = wrong_place (image_in f.words) f.first f.first_after image us at place b h.first w
no_fault f image us at place layout b h (inr (inr w)) =
    let units = units_told (image_in f.words) f.first f.first_after image us b h.first.opened in
    let here = same_place (image_in f.words) f.first f.first_after image us place w.0 at b h.first w.1 in
    let e : fits layout (spec_of (units_of (head_of image)) w.0.dev).ty ≡ true = subst (λ (s : Stretch). fits layout (spec_of (units_of (head_of image)) s.dev).ty ≡ true) here (subst (λ (u : List UnitSpec). fits layout (spec_of u at.dev).ty ≡ true) units h.fits) in
    let both : true ≡ false = sym e ∙ w.2 in
    absurd (cc)

exports_right : (place : PlaceWord) (layout : Layout) (f : Facts) (v : Verdict Refusal Blocks) → Cause lab (export_work place layout) v f → (image : List ℕ) → f.first.bytes ≡ Some image → IsRightHead image × IsFitPlace place layout image → IsCalmFirst f → RunsOrWants (verdict_status lab (export_work place layout) v)
exports_right place layout f (Refused (refusal.Stopped s)) c image b h k = inr (unopened_right s (image_in f.words) f.first f.first_after image b h.0 k c)
exports_right place layout f (Refused (refusal.Place x)) c image b h k = absurd (no_place (image_in f.words) f.first f.first_after image place x h.1.0 b h.1.1 c)
exports_right place layout f (Refused refusal.NoTuples) c image b h k = absurd (two_fits f image place layout h.1.0 b h.1.1 h.1.2 c)
exports_right place layout f (Refused _) c image b h k = absurd c
exports_right place layout f (Done x) c image b h k = inl (inl (unbroken (Rose f.first.faults f.first_after.faults) x.broken status.RigFault status.Whole c.ends (never_rose f.first.faults f.first_after.faults k)))

exports_wrong : (place : PlaceWord) (layout : Layout) (f : Facts) (v : Verdict Refusal Blocks) → Cause lab (export_work place layout) v f → (image : List ℕ) → f.first.bytes ≡ Some image → IsNoDump place layout image → IsCalmFirst f → RefusesImage (verdict_status lab (export_work place layout) v)
exports_wrong place layout f (Refused (refusal.Stopped s)) c image b w k = unopened_wrong s (image_in f.words) f.first f.first_after k c
exports_wrong place layout f (Refused (refusal.Place x)) c image b w k = inl refl
exports_wrong place layout f (Refused refusal.NoTuples) c image b w k = inl refl
exports_wrong place layout f (Refused _) c image b w k = absurd c
exports_wrong place layout f (Done x) c image b w k = absurd (no_fault f image x.units x.at place layout b c.found w)

pub exports : (place : PlaceWord) (layout : Layout) (f : Facts) (v : Verdict Refusal Blocks) → Cause lab (export_work place layout) v f → (export_work place layout).Answers f (verdict_status lab (export_work place layout) v)
exports place layout f v c = record { right = exports_right place layout f v c; wrong = exports_wrong place layout f v c }

-- a dump of the right length isn't of another
right_length : (f : Facts) (image : List ℕ) (us : List UnitSpec) (at : Stretch) (place : PlaceWord) (layout : Layout) → f.first.bytes ≡ Some image → (r : IsReady place layout f image) → length r.dump ≡ dump_len (units_of (head_of image)) r.at layout → HasFound us at place layout f → IsOtherLength us at layout f.left → ⊥
right_length f image us at place layout b r l h o =
    let units = units_told (image_in f.words) f.first f.first_after image us b h.first.opened in
    let here = same_place (image_in f.words) f.first f.first_after image us place r.at at b h.first r.there in
    let same : length r.dump ≡ dump_len us at layout = l ∙ ap (λ (s : Stretch). dump_len (units_of (head_of image)) s layout) (sym here) ∙ ap (λ (u : List UnitSpec). dump_len u at layout) (sym units) in
    subst (λ (x : Option (List ℕ)). IsOtherLength us at layout x) r.told o same

-- a source that is known to have other bytes tells no dump of the place
size_other : (us : List UnitSpec) (at : Stretch) (layout : Layout) (left : Option (List ℕ)) (has wanted : ℕ) → HasLength has left → wanted ≡ dump_len us at layout → (has ≡ wanted → ⊥) → IsOtherLength us at layout left
size_other us at layout None has wanted h a n = tt
size_other us at layout (Some dump) has wanted h a n = λ e. n (h ∙ e ∙ sym a)

-- a dump that was taken whole has the right length
not_whole : (f : Facts) (image : List ℕ) (x : Imported) (place : PlaceWord) (layout : Layout) → f.first.bytes ≡ Some image → DumpTaken (Ok x.count) x.units x.at place layout f → IsWrongDump place layout f image → ⊥
not_whole f image x place layout b c w =
    let units = units_told (image_in f.words) f.first f.first_after image x.units b c.found.first.opened in
    let here = same_place (image_in f.words) f.first f.first_after image x.units place w.0.at x.at b c.found.first w.0.there in
    let l : length w.0.dump ≡ dump_len x.units x.at layout = whole_long layout x.units x.at x.count 65536 c.opened_faults f.first_after.faults f.reads f.reads_after f.first.bytes f.first_after.bytes f.left f.left_after w.0.dump w.0.told c.ends in
    w.1 (l ∙ ap (λ (s : Stretch). dump_len x.units s layout) here ∙ ap (λ (u : List UnitSpec). dump_len u w.0.at layout) units)

-- the store failed as the image was opened, or as blocks were written
store_rose : (place : PlaceWord) (layout : Layout) (f : Facts) → (Rose f.first.faults f.first_after.faults × IsUntouched f) ⊎ HasBrokenOff halt.Store place layout f → Rose f.first.faults f.first_after.faults
store_rose place layout f (inl c) = c.0
store_rose place layout f (inr b) = rose_since f.first.faults b.taken.opened_faults f.first_after.faults b.taken.since b.taken.ends.0

-- what is refused for an image that isn't opened, but for its store and the source
unopened_of : (place : PlaceWord) (layout : Layout) (s : Stop) (f : Facts) → IsCalmFirst f → (HasBrokenOff halt.Source place layout f → ⊥) → CauseNotImported place layout (refusal.Stopped s) f → CauseNotOpened s f
unopened_of place layout stop.RigFault f k n c = store_rose place layout f c
unopened_of place layout stop.ReadFault f k n c = absurd (n c)
unopened_of place layout (stop.Script bad) f k n c = c.0
unopened_of place layout (stop.Image x) f k n c = c.0
unopened_of place layout (stop.BadCapacity dev) f k n c = c.0
unopened_of place layout (stop.Volume entry kind) f k n c = c.0
unopened_of place layout stop.Memory f k n c = c.0

ready_reads : (place : PlaceWord) (layout : Layout) (f : Facts) (image : List ℕ) → IsReady place layout f image → HasBrokenOff halt.Source place layout f → ⊥
ready_reads place layout f image r b = never_rose f.reads f.reads_after r.calm b.taken.ends.0

imports_right : (place : PlaceWord) (layout : Layout) (f : Facts) (v : Verdict Refusal Imported) → Cause lab (import_work place layout) v f → (image : List ℕ) → f.first.bytes ≡ Some image → IsRightDump place layout f image → IsCalmFirst f → RunsOrWants (verdict_status lab (import_work place layout) v)
imports_right place layout f (Refused (refusal.Stopped s)) c image b h k = inr (unopened_right s (image_in f.words) f.first f.first_after image b h.0.right k (unopened_of place layout s f k (ready_reads place layout f image h.0) c))
imports_right place layout f (Refused (refusal.Place x)) c image b h k = absurd (no_place (image_in f.words) f.first f.first_after image place x h.0.at b h.0.there c.0)
imports_right place layout f (Refused refusal.NoTuples) c image b h k = absurd (two_fits f image place layout h.0.at b h.0.there h.0.fits c.0)
imports_right place layout f (Refused (refusal.Short x)) c image b h k =
    absurd (right_length f image c.units c.at place layout b h.0 h.1 c.taken.found (short_other layout c.units c.at x f.first.bytes f.first_after.bytes f.left f.left_after c.taken.ends))
imports_right place layout f (Refused refusal.Long) c image b h k =
    absurd (right_length f image c.units c.at place layout b h.0 h.1 c.taken.found (long_other layout c.units c.at c.taken.ends.0 f.first.bytes f.first_after.bytes f.left f.left_after c.taken.ends.1))
imports_right place layout f (Refused (refusal.Size has wanted)) c image b h k = absurd (right_length f image c.units c.at place layout b h.0 h.1 c.found (size_other c.units c.at layout f.left has wanted c.told c.asked c.other))
imports_right place layout f (Refused _) c image b h k = absurd c
imports_right place layout f (Done x) c image b h k = inl (inl refl)

-- an image at fault isn't one that a dump was taken for
no_taking : (place : PlaceWord) (layout : Layout) (x : ImportFault) (f : Facts) (image : List ℕ) → f.first.bytes ≡ Some image → IsNoDump place layout image → HasBrokenOff x place layout f → ⊥
no_taking place layout x f image b w c = no_fault f image c.units c.at place layout b c.taken.found w

imports_wrong : (place : PlaceWord) (layout : Layout) (f : Facts) (v : Verdict Refusal Imported) → Cause lab (import_work place layout) v f → (image : List ℕ) → f.first.bytes ≡ Some image → IsNoDump place layout image → IsCalmFirst f → RefusesImage (verdict_status lab (import_work place layout) v)
imports_wrong place layout f (Refused (refusal.Stopped s)) c image b w k = unopened_wrong s (image_in f.words) f.first f.first_after k (unopened_of place layout s f k (no_taking place layout halt.Source f image b w) c)
imports_wrong place layout f (Refused (refusal.Place x)) c image b w k = inl refl
imports_wrong place layout f (Refused refusal.NoTuples) c image b w k = inl refl
imports_wrong place layout f (Refused (refusal.Short x)) c image b w k = absurd (no_taking place layout (halt.Short x) f image b w c)
imports_wrong place layout f (Refused refusal.Long) c image b w k = absurd (no_taking place layout halt.Long f image b w c)
imports_wrong place layout f (Refused (refusal.Size has wanted)) c image b w k = absurd (no_fault f image c.units c.at place layout b c.found w)
imports_wrong place layout f (Refused _) c image b w k = absurd c
imports_wrong place layout f (Done x) c image b w k = absurd (no_fault f image x.units x.at place layout b c.found w)

dump_wrong : (place : PlaceWord) (layout : Layout) (f : Facts) (v : Verdict Refusal Imported) → Cause lab (import_work place layout) v f → (image : List ℕ) → f.first.bytes ≡ Some image → IsWrongDump place layout f image → IsCalmFirst f → RefusesInput (verdict_status lab (import_work place layout) v)
dump_wrong place layout f (Refused (refusal.Stopped s)) c image b w k = inr (unopened_right s (image_in f.words) f.first f.first_after image b w.0.right k (unopened_of place layout s f k (ready_reads place layout f image w.0) c))
dump_wrong place layout f (Refused (refusal.Place x)) c image b w k = absurd (no_place (image_in f.words) f.first f.first_after image place x w.0.at b w.0.there c.0)
dump_wrong place layout f (Refused refusal.NoTuples) c image b w k = absurd (two_fits f image place layout w.0.at b w.0.there w.0.fits c.0)
dump_wrong place layout f (Refused (refusal.Short x)) c image b w k = inl refl
dump_wrong place layout f (Refused refusal.Long) c image b w k = inl refl
dump_wrong place layout f (Refused (refusal.Size has wanted)) c image b w k = inl refl
dump_wrong place layout f (Refused _) c image b w k = absurd c
dump_wrong place layout f (Done x) c image b w k = absurd (not_whole f image x place layout b c w)

pub takes : (place : PlaceWord) (layout : Layout) (f : Facts) (v : Verdict Refusal Imported) → Cause lab (import_work place layout) v f → (import_work place layout).Answers f (verdict_status lab (import_work place layout) v)
takes place layout f v c = record { image = record { right = imports_right place layout f v c; wrong = imports_wrong place layout f v c }; dump = dump_wrong place layout f v c }
