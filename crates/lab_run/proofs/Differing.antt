-- What `diff` comes to.
use Rattle.std.proofs.Common.{ℕ, ◌≡◌, ◌⊎◌, inl, inr, Bool, true, false, eqb, ltb, List, Option, Some, None, Result, Ok, Err, refl, sym, ap, subst, ◌∙◌}
use Rattle.std.proofs.lemmas.Bool.{eq-eqb, eqb-true}
use Rattle.call_refusal.specs.declared.refusal.Refusal.{Refusal as Stop}
use Rattle.call_refusal.specs.declared.refusal.Refusal.TheVariants as stop
use Rattle.call_verdict.specs.Verdicts.{Cause, Done, IsRun, Refused, RunsOrWants, Verdict, done_status, stop_status, verdict_status}
use Rattle.call_verdict.specs.declared.status.Status.{Status}
use Rattle.call_verdict.specs.declared.status.Status.TheVariants as status
use Rattle.call_verdict.proofs.Verdicts.{done_is}
use Rattle.dix_base.specs.Stores.{StoreState, WasRead}
use Rattle.dix_base.specs.Told.{Rose}
use Rattle.dix_base.proofs.Counts.{never_rose}
use Rattle.image_blocks.specs.Blocks.{HasStretch}
use Rattle.image_blocks.specs.Images.{units_open}
use Rattle.image_blocks.specs.Places.{spec_of}
use Rattle.image_blocks.specs.declared.stretch.PlaceFault.{PlaceFault}
use Rattle.image_blocks.specs.declared.stretch.Stretch.{Stretch}
use Rattle.image_text.specs.Compared.{DiffEnds, HaveBlocks, Places, counts, diff_of, differ_of, places}
use Rattle.image_text.specs.declared.fault.DiffFault.{DiffFault}
use Rattle.image_text.specs.declared.fault.DiffFault.TheVariants as compare
use Rattle.lab_run.specs.declared.command.Command.TheVariants.{Diff}
use Rattle.lab_run.specs.declared.place.PlaceWord.{PlaceWord}
use Rattle.rig_api.specs.Head.{head_of, units_of}
use Rattle.rig_api.specs.State.{RigState}
use Rattle.rig_api.specs.declared.units.UnitSpec.{UnitSpec}
use Rattle.dix_base.proofs.Counts.{rose_later as rose_since}
use Rattle.call_verdict.specs.Words.{image_in}
use Rattle.lab_run.specs.Breaking.{EndsBy}
use Rattle.lab_run.specs.Calls.{Facts, on_both, second_in, stretch_in}
use Rattle.lab_run.specs.Commands.{Came}
use Rattle.lab_run.specs.Comparing.{AreComparable, AreOneSize, AreOtherPlaces, ArePlaces, CauseNotCompared, Compared, HasCompared, HaveBoth, compared_status, diff_work}
use Rattle.lab_run.specs.Images.{CauseNotOpened, CauseUnfound, CauseUnopened, HasPlace, IsBadHead, IsFound, IsNoPlace}
use Rattle.lab_run.specs.Keeping.{ReadsBoth, ReadsOnce}
use Rattle.lab_run.specs.Telling.{AreCalmBoth, RefusesImage}
use Rattle.lab_run.specs.Texts.{lab, no_memory, of_place, of_second}
use Rattle.lab_run.specs.declared.finding.Found.{Found}
use Rattle.lab_run.specs.declared.finding.Unfound.{Unfound}
use Rattle.lab_run.specs.declared.finding.Unfound.TheVariants as unfound
use Rattle.lab_run.specs.declared.refusal.Refusal.{Refusal}
use Rattle.lab_run.specs.declared.refusal.Refusal.TheVariants as refusal
use Rattle.lab_run.proofs.Openings.{bad_none, has_since, no_place, reads_none, reads_on, unbroken, units_told, unopened_right, unopened_wrong, wrong_head, wrong_place}

-- ---- places that aren't found

pub uncompared : (words : List (List ℕ)) (one other : PlaceWord) (old new old_second new_second : StoreState) (left : Option (List ℕ)) (reads : ℕ) (rig : RigState) (r : Refusal) (taken : Option (List ℕ)) (o : ℕ) →
    CauseNotCompared one other r (on_both words old new old_second new_second left reads rig) → ReadsOnce (image_in words) old new → ReadsOnce (second_in words) old_second new_second → Came (Some (Diff one other)) (Err r) (on_both words old new old_second new_second left reads rig) taken taken o o
uncompared words one other old new old_second new_second left reads rig r taken o c k s = record { comes = (c, refl, refl); kept = record { source = (refl, refl); rig = refl; first = k; second = s } }

pub spared : (words : List (List ℕ)) (one other : PlaceWord) (h h' : StoreState) (left : Option (List ℕ)) (reads : ℕ) (rig : RigState) (r : Refusal) (taken : Option (List ℕ)) (o : ℕ) → r ≡ no_memory → Came (Some (Diff one other)) (Err r) (on_both words h h h' h' left reads rig) taken taken o o
spared words one other h h' left reads rig r taken o e =
    let f = on_both words h h h' h' left reads rig in
    uncompared words one other h h h' h' left reads rig r taken o (subst (λ (y : Refusal). CauseNotCompared one other y f) (sym e) tt) (reads_none (image_in words) h) (reads_none (second_in words) h')

first_stopped : (one other : PlaceWord) (s : Stop) (f : Facts) → CauseUnopened s (image_in f.words) f.first f.first_after → CauseNotCompared one other (refusal.Stopped s) f
first_stopped one other (stop.Script bad) f c = c
first_stopped one other (stop.Image x) f c = c
first_stopped one other (stop.BadCapacity dev) f c = c
first_stopped one other (stop.Volume entry kind) f c = c
first_stopped one other stop.RigFault f c = inl c
first_stopped one other stop.Memory f c = c
first_stopped one other stop.ReadFault f c = c

first_unfound : (one other : PlaceWord) (u : Unfound) (f : Facts) → CauseUnfound one u (image_in f.words) f.first f.first_after → CauseNotCompared one other (of_place u) f
first_unfound one other (unfound.Stopped s) f c = first_stopped one other s f c
first_unfound one other (unfound.Place x) f c = c

pub no_first : (words : List (List ℕ)) (one other : PlaceWord) (old new h : StoreState) (left : Option (List ℕ)) (reads : ℕ) (rig : RigState) (u : Unfound) (r : Refusal) (taken : Option (List ℕ)) (o : ℕ) → r ≡ of_place u → CauseUnfound one u (image_in words) old new → ReadsOnce (image_in words) old new →
    Came (Some (Diff one other)) (Err r) (on_both words old new h h left reads rig) taken taken o o
no_first words one other old new h left reads rig u r taken o e c k =
    let f = on_both words old new h h left reads rig in
    uncompared words one other old new h h left reads rig r taken o (subst (λ (y : Refusal). CauseNotCompared one other y f) (sym e) (first_unfound one other u f c)) k (reads_none (second_in words) h)

second_stopped : (one other : PlaceWord) (us : List UnitSpec) (at : Stretch) (s : Stop) (f : Facts) → HasPlace us at one (image_in f.words) f.first f.first_after → CauseUnopened s (second_in f.words) f.second f.second_after → CauseNotCompared one other (of_second (unfound.Stopped s)) f
second_stopped one other us at (stop.Script bad) f h c = absurd c
second_stopped one other us at (stop.Image x) f h c = record { units = us; at = at; first = h; second = c }
second_stopped one other us at (stop.BadCapacity dev) f h c = absurd c
second_stopped one other us at (stop.Volume entry kind) f h c = absurd c
second_stopped one other us at stop.RigFault f h c = inr c
second_stopped one other us at stop.Memory f h c = tt
second_stopped one other us at stop.ReadFault f h c = absurd c

second_unfound : (one other : PlaceWord) (us : List UnitSpec) (at : Stretch) (u : Unfound) (f : Facts) → HasPlace us at one (image_in f.words) f.first f.first_after → CauseUnfound other u (second_in f.words) f.second f.second_after → CauseNotCompared one other (of_second u) f
second_unfound one other us at (unfound.Stopped s) f h c = second_stopped one other us at s f h c
second_unfound one other us at (unfound.Place x) f h c = record { units = us; at = at; first = h; second = c }

pub no_second : (words : List (List ℕ)) (one other : PlaceWord) (old new old_second new_second : StoreState) (left : Option (List ℕ)) (reads : ℕ) (rig : RigState) (x : Found) (u : Unfound) (r : Refusal) (taken : Option (List ℕ)) (o : ℕ) →
    IsFound x one (image_in words) old new → ReadsOnce (image_in words) old new → r ≡ of_second u → CauseUnfound other u (second_in words) old_second new_second → ReadsOnce (second_in words) old_second new_second →
    Came (Some (Diff one other)) (Err r) (on_both words old new old_second new_second left reads rig) taken taken o o
no_second words one other old new old_second new_second left reads rig x u r taken o h k e c s =
    let f = on_both words old new old_second new_second left reads rig in
    uncompared words one other old new old_second new_second left reads rig r taken o (subst (λ (y : Refusal). CauseNotCompared one other y f) (sym e) (second_unfound one other (units_open x.image) x.at u f h.has c)) k s

-- ---- places that can't be compared

-- both places as they were found
abbrev pub of_both : Found → Found → Places
of_both x y = places (units_open x.image) x.at (units_open y.image) y.at

-- both images were opened and have their places
pub record AreFound (words : List (List ℕ)) (one other : PlaceWord) (old new old_second new_second : StoreState) (x y : Found) : Type 0 where
  pub first : IsFound x one (image_in words) old new
  pub kept : ReadsOnce (image_in words) old new
  pub second : IsFound y other (second_in words) old_second new_second
  pub second_kept : ReadsOnce (second_in words) old_second new_second

have_both : (words : List (List ℕ)) (one other : PlaceWord) (old new old_second new_second : StoreState) (left : Option (List ℕ)) (reads : ℕ) (rig : RigState) (x y : Found) → AreFound words one other old new old_second new_second x y → HaveBoth one other (of_both x y) (on_both words old new old_second new_second left reads rig)
have_both words one other old new old_second new_second left reads rig x y h = record { first = h.first.has; second = h.second.has }

pub other_size : (words : List (List ℕ)) (one other : PlaceWord) (old new old_second new_second : StoreState) (left : Option (List ℕ)) (reads : ℕ) (rig : RigState) (x y : Found) (b : Bool) (taken : Option (List ℕ)) (o : ℕ) → AreFound words one other old new old_second new_second x y →
    b ≡ eqb (spec_of (units_open x.image) x.at.dev).size (spec_of (units_open y.image) y.at.dev).size → b ≡ false → Came (Some (Diff one other)) (Err refusal.OtherSize) (on_both words old new old_second new_second left reads rig) taken taken o o
other_size words one other old new old_second new_second left reads rig x y b taken o h q z =
    uncompared words one other old new old_second new_second left reads rig refusal.OtherSize taken o
    (record {
      places = of_both x y;
      both = have_both words one other old new old_second new_second left reads rig x y h;
      judged = λ same. (let both : true ≡ false = sym (eq-eqb (spec_of (units_open x.image) x.at.dev).size (spec_of (units_open y.image) y.at.dev).size same) ∙ sym q ∙ z in absurd (cc));
    })
    h.kept h.second_kept

pub other_count : (words : List (List ℕ)) (one other : PlaceWord) (old new old_second new_second : StoreState) (left : Option (List ℕ)) (reads : ℕ) (rig : RigState) (x y : Found) (b : Bool) (taken : Option (List ℕ)) (o : ℕ) → AreFound words one other old new old_second new_second x y →
    b ≡ eqb (spec_of (units_open x.image) x.at.dev).size (spec_of (units_open y.image) y.at.dev).size → b ≡ true → (x.at.count ≡ y.at.count → ⊥) → Came (Some (Diff one other)) (Err refusal.OtherCount) (on_both words old new old_second new_second left reads rig) taken taken o o
other_count words one other old new old_second new_second left reads rig x y b taken o h q z m =
    uncompared words one other old new old_second new_second left reads rig refusal.OtherCount taken o
    (record {
      places = of_both x y;
      both = have_both words one other old new old_second new_second left reads rig x y h;
      size = eqb-true (spec_of (units_open x.image) x.at.dev).size (spec_of (units_open y.image) y.at.dev).size (sym q ∙ z);
      judged = m;
    })
    h.kept h.second_kept

-- ---- places that are compared

-- both stores as the images were opened, and after their blocks were read
pub record Walked (mid new mid_second new_second : StoreState) : Type 0 where
  pub first : WasRead mid new
  pub second : WasRead mid_second new_second

-- what was read of both
abbrev both_read : Found → Found → (ones twos : List (List ℕ)) → (broken : Option ℕ) → Compared
both_read x y ones twos broken = record { places = of_both x y; ones = ones; twos = twos; broken = broken }

has_compared : (words : List (List ℕ)) (one other : PlaceWord) (old mid new old_second mid_second new_second : StoreState) (left : Option (List ℕ)) (reads : ℕ) (rig : RigState) (x y : Found) (ones twos : List (List ℕ)) (broken : Option ℕ) →
    AreFound words one other old mid old_second mid_second x y → Walked mid new mid_second new_second → AreOneSize (of_both x y) → x.at.count ≡ y.at.count → HaveBlocks (of_both x y) ones twos mid.bytes mid_second.bytes →
    EndsBy (Rose old.faults new.faults ⊎ Rose old_second.faults new_second.faults) broken → HasCompared one other (both_read x y ones twos broken) (on_both words old new old_second new_second left reads rig)
has_compared words one other old mid new old_second mid_second new_second left reads rig x y ones twos broken h g z m b e = record {
  both = record {
    first = has_since (units_open x.image) x.at one (image_in words) old mid new g.first.named g.first.opened h.first.has;
    second = has_since (units_open y.image) y.at other (second_in words) old_second mid_second new_second g.second.named g.second.opened h.second.has;
  };
  size = z;
  many = m;
  has = record {
    one = subst (λ (v : Option (List ℕ)). HasStretch (units_open x.image) x.at ones v) h.kept.same b.one;
    other = subst (λ (v : Option (List ℕ)). HasStretch (units_open y.image) y.at twos v) h.second_kept.same b.other;
  };
  ends = e;
}

reads_both : (words : List (List ℕ)) (one other : PlaceWord) (old mid new old_second mid_second new_second : StoreState) (left : Option (List ℕ)) (reads : ℕ) (rig : RigState) (x y : Found) → AreFound words one other old mid old_second mid_second x y → Walked mid new mid_second new_second →
    ReadsBoth (on_both words old new old_second new_second left reads rig)
reads_both words one other old mid new old_second mid_second new_second left reads rig x y h g =
    record { source = (refl, refl); rig = refl; first = reads_on (image_in words) old mid new h.kept g.first; second = reads_on (second_in words) old_second mid_second new_second h.second_kept g.second }

pub compared : (words : List (List ℕ)) (one other : PlaceWord) (old mid new old_second mid_second new_second : StoreState) (left : Option (List ℕ)) (reads : ℕ) (rig : RigState) (x y : Found) (r : Result ℕ DiffFault) (taken taken' : Option (List ℕ)) (o n : ℕ) (s : Status) →
    AreFound words one other old mid old_second mid_second x y → Walked mid new mid_second new_second → AreOneSize (of_both x y) → x.at.count ≡ y.at.count →
    DiffEnds r (diff_of (of_both x y)) (of_both x y) mid.bytes mid_second.bytes (counts mid.faults new.faults mid_second.faults new_second.faults o n) taken taken' → ((r ≡ Err compare.Sink → ⊥) → n ≡ o) → s ≡ compared_status r →
    Came (Some (Diff one other)) (Ok s) (on_both words old new old_second new_second left reads rig) taken taken' o n
compared words one other old mid new old_second mid_second new_second left reads rig x y (Ok differ) taken taken' o n s h g z m e calm w = record {
  comes = (
    both_read x y e.ones e.twos None,
    has_compared words one other old mid new old_second mid_second new_second left reads rig x y e.ones e.twos None h g z m e.has tt,
    inl (w ∙ ap (λ (k : ℕ). done_status (ltb 0 k)) e.counted, e.written, calm (λ v. absurd (cc))),
  );
  kept = reads_both words one other old mid new old_second mid_second new_second left reads rig x y h g;
}
compared words one other old mid new old_second mid_second new_second left reads rig x y (Err compare.First) taken taken' o n s h g z m e calm w = record {
  comes = (
    both_read x y e.1.ones e.1.twos (Some e.1.written.0),
    has_compared words one other old mid new old_second mid_second new_second left reads rig x y e.1.ones e.1.twos (Some e.1.written.0) h g z m e.1.has (inl (rose_since old.faults mid.faults new.faults h.kept.count e.0)),
    inl (w, e.1.written.1, calm (λ v. absurd (cc))),
  );
  kept = reads_both words one other old mid new old_second mid_second new_second left reads rig x y h g;
}
compared words one other old mid new old_second mid_second new_second left reads rig x y (Err compare.Second) taken taken' o n s h g z m e calm w = record {
  comes = (
    both_read x y e.1.ones e.1.twos (Some e.1.written.0),
    has_compared words one other old mid new old_second mid_second new_second left reads rig x y e.1.ones e.1.twos (Some e.1.written.0) h g z m e.1.has (inr (rose_since old_second.faults mid_second.faults new_second.faults h.second_kept.count e.0)),
    inl (w, e.1.written.1, calm (λ v. absurd (cc))),
  );
  kept = reads_both words one other old mid new old_second mid_second new_second left reads rig x y h g;
}
compared words one other old mid new old_second mid_second new_second left reads rig x y (Err compare.Sink) taken taken' o n s h g z m e calm w = record {
  comes = (both_read x y e.1.ones e.1.twos None, has_compared words one other old mid new old_second mid_second new_second left reads rig x y e.1.ones e.1.twos None h g z m e.1.has tt, inr (w, e.0, e.1.written));
  kept = reads_both words one other old mid new old_second mid_second new_second left reads rig x y h g;
}

-- ---- images that are told

-- places that were found are those of the images that are told
pub record AreSame (p q : Places) : Type 0 where
  pub units : p.units ≡ q.units
  pub others : p.others ≡ q.others
  pub at : p.at ≡ q.at
  pub to : p.to ≡ q.to

-- a place that was found in both is the same
one_place : (us vs : List UnitSpec) (place : PlaceWord) (at to : Stretch) → us ≡ vs → stretch_in us place ≡ Ok at → stretch_in vs place ≡ Ok to → at ≡ to
one_place us vs place at to e a b = let both : ◌≡◌ {A = Result Stretch PlaceFault} (Ok at) (Ok to) = sym a ∙ ap (λ (u : List UnitSpec). stretch_in u place) e ∙ b in cc

told_places : (f : Facts) (image second : List ℕ) (one other : PlaceWord) (p q : Places) → f.first.bytes ≡ Some image → f.second.bytes ≡ Some second → HaveBoth one other p f → ArePlaces one other q image second → AreSame p q
told_places f image second one other p q b d h a =
    let x : p.units ≡ q.units = units_told (image_in f.words) f.first f.first_after image p.units b h.first.opened ∙ sym a.units in
    let y : p.others ≡ q.others = units_told (second_in f.words) f.second f.second_after second p.others d h.second.opened ∙ sym a.others in
    record { units = x; others = y; at = one_place p.units q.units one p.at q.at x h.first.there a.there; to = one_place p.others q.others other p.to q.to y h.second.there a.other_there }

one_size : (p q : Places) → AreSame p q → AreOneSize q → AreOneSize p
one_size p q s h = rw (s.units, s.others, s.at, s.to) h

one_number : (p q : Places) → AreSame p q → q.at.count ≡ q.to.count → p.at.count ≡ p.to.count
one_number p q s h = rw (s.at, s.to) h

back : (p q : Places) → AreSame p q → AreSame q p
back p q s = record { units = sym s.units; others = sym s.others; at = sym s.at; to = sym s.to }

no_other : (p q : Places) → AreSame p q → AreOneSize p → p.at.count ≡ p.to.count → (AreOneSize q → ⊥) ⊎ (q.at.count ≡ q.to.count → ⊥) → ⊥
no_other p q s h m (inl n) = n (one_size q p (back p q s) h)
no_other p q s h m (inr n) = n (one_number q p (back p q s) m)

none_rose : (f : Facts) → AreCalmBoth f → Rose f.first.faults f.first_after.faults ⊎ Rose f.second.faults f.second_after.faults → ⊥
none_rose f k (inl r) = never_rose f.first.faults f.first_after.faults k.0 r
none_rose f k (inr r) = never_rose f.second.faults f.second_after.faults k.1 r

-- what is refused for an image that isn't opened, if no store fails
unopened_of : (one other : PlaceWord) (s : Stop) (f : Facts) → AreCalmBoth f → CauseNotCompared one other (refusal.Stopped s) f → CauseNotOpened s f
unopened_of one other stop.RigFault f k c = absurd (none_rose f k c)
unopened_of one other (stop.Script bad) f k c = c
unopened_of one other (stop.Image x) f k c = c
unopened_of one other (stop.BadCapacity dev) f k c = c
unopened_of one other (stop.Volume entry kind) f k c = c
unopened_of one other stop.Memory f k c = c
unopened_of one other stop.ReadFault f k c = c

compares_right : (one other : PlaceWord) (f : Facts) (v : Verdict Refusal Compared) → Cause lab (diff_work one other) v f → (image : List ℕ) → f.first.bytes ≡ Some image → AreComparable one other f image → AreCalmBoth f → RunsOrWants (verdict_status lab (diff_work one other) v)
compares_right one other f (Refused (refusal.Stopped s)) c image b i k = inr (unopened_right s (image_in f.words) f.first f.first_after image b i.right k.0 (unopened_of one other s f k c))
compares_right one other f (Refused (refusal.Place x)) c image b i k = absurd (no_place (image_in f.words) f.first f.first_after image one x i.places.at b (ap (λ (u : List UnitSpec). stretch_in u one) (sym i.here.units) ∙ i.here.there) c)
compares_right one other f (Refused (refusal.SecondImage x)) c image b i k = absurd (bad_none (second_in f.words) f.second f.second_after i.second x i.told c.second i.second_right)
compares_right one other f (Refused (refusal.SecondPlace x)) c image b i k =
    absurd (no_place (second_in f.words) f.second f.second_after i.second other x i.places.to i.told (ap (λ (u : List UnitSpec). stretch_in u other) (sym i.here.others) ∙ i.here.other_there) c.second)
compares_right one other f (Refused refusal.OtherSize) c image b i k = absurd (c.judged (one_size c.places i.places (told_places f image i.second one other c.places i.places b i.told c.both i.here) i.size))
compares_right one other f (Refused refusal.OtherCount) c image b i k = absurd (c.judged (one_number c.places i.places (told_places f image i.second one other c.places i.places b i.told c.both i.here) i.many))
compares_right one other f (Refused _) c image b i k = absurd c
compares_right one other f (Done x) c image b i k =
    let whole : Status = done_status (ltb 0 (differ_of x.places x.ones x.twos)) in
    let reason = Rose f.first.faults f.first_after.faults ⊎ Rose f.second.faults f.second_after.faults in
    inl (subst IsRun (sym (unbroken reason x.broken status.RigFault whole c.ends (none_rose f k))) (done_is (ltb 0 (differ_of x.places x.ones x.twos))))

not_comparable : (one other : PlaceWord) (f : Facts) (x : Compared) (image : List ℕ) → f.first.bytes ≡ Some image → HasCompared one other x f → IsBadHead image ⊎ (IsNoPlace one image ⊎ AreOtherPlaces one other f image) → ⊥
not_comparable one other f x image b c (inl w) = wrong_head (image_in f.words) f.first f.first_after image x.places.units b c.both.first.opened w
not_comparable one other f x image b c (inr (inl w)) = wrong_place (image_in f.words) f.first f.first_after image x.places.units x.places.at one b c.both.first w
not_comparable one other f x image b c (inr (inr w)) = no_other x.places w.places (told_places f image w.second one other x.places w.places b w.told c.both w.here) c.size c.many w.differ

-- but for an image at fault want of memory alone refuses
refuses : (one other : PlaceWord) (f : Facts) (r : Refusal) → CauseNotCompared one other r f → AreCalmBoth f → RefusesImage (lab.status_of r)
refuses one other f (refusal.Stopped s) c k = unopened_wrong s (image_in f.words) f.first f.first_after k.0 (unopened_of one other s f k c)
refuses one other f (refusal.Place x) c k = inl refl
refuses one other f (refusal.SecondImage x) c k = inl refl
refuses one other f (refusal.SecondPlace x) c k = inl refl
refuses one other f refusal.OtherSize c k = inl refl
refuses one other f refusal.OtherCount c k = inl refl
refuses one other f _ c k = absurd c

compares_wrong : (one other : PlaceWord) (f : Facts) (v : Verdict Refusal Compared) → Cause lab (diff_work one other) v f → (image : List ℕ) → f.first.bytes ≡ Some image → IsBadHead image ⊎ (IsNoPlace one image ⊎ AreOtherPlaces one other f image) → AreCalmBoth f → RefusesImage (verdict_status lab (diff_work one other) v)
compares_wrong one other f (Refused r) c image b w k = refuses one other f r c k
compares_wrong one other f (Done x) c image b w k = absurd (not_comparable one other f x image b c w)

second_wrong : (one other : PlaceWord) (f : Facts) (v : Verdict Refusal Compared) → Cause lab (diff_work one other) v f → (image : List ℕ) → f.second.bytes ≡ Some image → IsBadHead image ⊎ IsNoPlace other image → AreCalmBoth f → RefusesImage (verdict_status lab (diff_work one other) v)
second_wrong one other f (Refused r) c image b w k = refuses one other f r c k
second_wrong one other f (Done x) c image b (inl w) k = absurd (wrong_head (second_in f.words) f.second f.second_after image x.places.others b c.both.second.opened w)
second_wrong one other f (Done x) c image b (inr w) k = absurd (wrong_place (second_in f.words) f.second f.second_after image x.places.others x.places.to other b c.both.second w)

pub compares : (one other : PlaceWord) (f : Facts) (v : Verdict Refusal Compared) → Cause lab (diff_work one other) v f → (diff_work one other).Answers f (verdict_status lab (diff_work one other) v)
compares one other f v c = record { first = record { right = compares_right one other f v c; wrong = compares_wrong one other f v c }; second = second_wrong one other f v c }
