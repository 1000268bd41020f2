-- A block of a mirror of which nothing alters a leg, along writes where store calls may fail: it keeps that leg, which has what it was last written with, and the other has it, is spoilt or is stale.
use Rattle.std.proofs.Common.{◌≡◌, ◌<◌, ◌≤◌, ◌⊎◌, inl, inr, ℕ, zero, suc, ◌+◌, ◌-◌, Bool, true, false, eqb, not, if◌then◌else◌, List, [], ◌∷◌, length, get_or, set, Option, Some, None, refl, sym, ap, subst, ◌∙◌, arith}
use Rattle.std.specs.Prelude.{Ok}
use Rattle.std.proofs.lemmas.Bool.{eq-eqb, false≢true, ne_eqb}
use Rattle.std.proofs.lemmas.List.{get_or-set_other, get_or-set_same, length-set}
use Rattle.bio_core.specs.declared.fate.Why.{Why}
use Rattle.bio_core.specs.declared.fate.Why.TheVariants.{Medium}
use Rattle.walk_laws.proofs.InSteps.{listed_blocks}
use Rattle.walk_laws.specs.Past.{Brought, brought_by}
use Rattle.walk_laws.specs.PlainMap.{as_expected}
use Rattle.walk_laws.specs.ReadsAs.{listed_among, listed_in}
use Rattle.walk_laws.specs.ScriptWalk.{bad_from, whole_or_bad}
use Rattle.walk_laws.specs.FirstLayer.{is_stored_whole}
use Rattle.walk_laws.specs.Settings.{Block, Setting}
use Rattle.walk_laws.specs.UnderMap.{home}
use Rattle.mirror_laws.specs.Mirror.{fresh, marked, marks_of, neither}
use Rattle.mirror_laws.specs.OneGood.{on_leg}
use Rattle.mirror_laws.specs.OnLegs.{listed_written, marks_written}
use Rattle.mirror_laws.specs.Repair.{reading, writing}
use Rattle.mirror_laws.specs.declared.marks.Marks.{Marks}
use Rattle.block_path.proofs.Cells.{AllBelow}
use Rattle.mirror_volume.proofs.Free.{IsWhole, SoundAs}
use Rattle.mirror_volume.proofs.SparedShown.{StandsAs}

-- ---- what is listed of a block

before : (j : ℕ) (whys : List (Option Why)) (k : ℕ) → k < j → listed_among (bad_from j whys) k ≡ None
before j [] k h = refl
before j (None ∷ whys) k h = before (suc j) whys k (omega (arith, h))
before j (Some why ∷ whys) k h = ap (λ (c : Bool). if c then Some why else listed_among (bad_from (suc j) whys) k) (ne_eqb j k (λ e. omega (arith, e, h))) ∙ before (suc j) whys k (omega (arith, h))

among : (j : ℕ) (whys : List (Option Why)) (k : ℕ) → j ≤ k → listed_among (bad_from j whys) k ≡ get_or whys (k - j) None
among j [] k l = refl
among j (None ∷ whys) k l = by (k - j) refl (λ h. among (suc j) whys k h) where
  by : (d : ℕ) → k - j ≡ d → (suc j ≤ k → listed_among (bad_from (suc j) whys) k ≡ get_or whys (k - suc j) None) → listed_among (bad_from (suc j) whys) k ≡ get_or (None ∷ whys) d None
  by zero e rest = before (suc j) whys k (omega (arith, e, l))
  by (suc d) e rest = rest (omega (arith, e)) ∙ (let z : k - suc j ≡ d = omega (arith, e) in ap (λ i. get_or whys i None) z)
among j (Some why ∷ whys) k l = by (k - j) refl (λ h. among (suc j) whys k h) where
  by : (d : ℕ) → k - j ≡ d → (suc j ≤ k → listed_among (bad_from (suc j) whys) k ≡ get_or whys (k - suc j) None) → (if eqb j k then Some why else listed_among (bad_from (suc j) whys) k) ≡ get_or (Some why ∷ whys) d None
  by zero e rest = ap (λ (c : Bool). if c then Some why else listed_among (bad_from (suc j) whys) k) (eq-eqb j k (omega (arith, e, l)))
  by (suc d) e rest =
      ap (λ (c : Bool). if c then Some why else listed_among (bad_from (suc j) whys) k) (ne_eqb j k (λ z. omega (arith, e, z)))
      ∙ rest (omega (arith, e)) ∙ (let z : k - suc j ≡ d = omega (arith, e) in ap (λ i. get_or whys i None) z)

pub listed-at : (whys : List (Option Why)) (k : ℕ) → listed_in (whole_or_bad (bad_from 0 whys)) k ≡ get_or whys k None
listed-at whys k = let z : k - 0 ≡ k = omega arith in listed_blocks (bad_from 0 whys) k ∙ among 0 whys k (omega arith) ∙ ap (λ i. get_or whys i None) z

-- ---- lists of findings, at one place

pub written-at : (whys others : List (Option Why)) (k : ℕ) → length whys ≡ length others → get_or (listed_written whys others) k None ≡ neither (get_or whys k None) (get_or others k None)
written-at [] [] k e = refl
written-at [] (o ∷ others) k e = absurd (omega (arith, e))
written-at (w ∷ whys) [] k e = absurd (omega (arith, e))
written-at (w ∷ whys) (o ∷ others) zero e = refl
written-at (w ∷ whys) (o ∷ others) (suc k) e = written-at whys others k (omega (arith, e))

pub marks-out : (v : ℕ) (whys others : List (Option Why)) (marks : List Marks) (u : ℕ) → ((k : ℕ) → k < length whys → v + k ≡ u → ⊥) → marks_of (marks_written v whys others marks) u ≡ marks_of marks u
marks-out v [] others marks u off = refl
marks-out v (w ∷ whys) [] marks u off = refl
marks-out v (w ∷ whys) (o ∷ others) marks u off =
    marks-out (v + 1) whys others (set marks v (marked w o (marks_of marks v))) u (λ k l e. off (suc k) (omega (arith, l)) (omega (arith, e)))
    ∙ get_or-set_other marks v u (marked w o (marks_of marks v)) fresh (λ e. off 0 (omega arith) (omega (arith, e)))

pub marks-in : (v : ℕ) (whys others : List (Option Why)) (marks : List Marks) (k : ℕ) → length whys ≡ length others → k < length whys → v + length whys ≤ length marks
    → marks_of (marks_written v whys others marks) (v + k) ≡ marked (get_or whys k None) (get_or others k None) (marks_of marks (v + k))
marks-in v [] others marks k e l h = absurd (omega (arith, l))
marks-in v (w ∷ whys) [] marks k e l h = absurd (omega (arith, e))
marks-in v (w ∷ whys) (o ∷ others) marks zero e l h =
    let z : v + 0 ≡ v = omega arith in
    let s = length-set marks v (marked w o (marks_of marks v)) in
    ap (marks_of (marks_written (v + 1) whys others (set marks v (marked w o (marks_of marks v))))) z
    ∙ marks-out (v + 1) whys others (set marks v (marked w o (marks_of marks v))) v (λ k l e. omega (arith, e))
    ∙ get_or-set_same marks v (marked w o (marks_of marks v)) fresh (omega (arith, h))
    ∙ ap (λ i. marked w o (marks_of marks i)) (sym z)
marks-in v (w ∷ whys) (o ∷ others) marks (suc k) e l h =
    let z : v + suc k ≡ (v + 1) + k = omega arith in
    let s = length-set marks v (marked w o (marks_of marks v)) in
    ap (marks_of (marks_written (v + 1) whys others (set marks v (marked w o (marks_of marks v))))) z
    ∙ marks-in (v + 1) whys others (set marks v (marked w o (marks_of marks v))) k (omega (arith, e)) (omega (arith, l)) (omega (arith, h, s))
    ∙ ap (marked (get_or whys k None) (get_or others k None)) (get_or-set_other marks v ((v + 1) + k) (marked w o (marks_of marks v)) fresh (λ q. omega (arith, q)))
    ∙ ap (λ i. marked (get_or whys k None) (get_or others k None) (marks_of marks i)) (sym z)

-- ---- one block

-- a block that no fault line names: its write is stored, all of it, and what is stored right is delivered
pub record IsFree (m : Setting) (size : ℕ) (b : Block) : Type 0 where
  pub whole : is_stored_whole m b ≡ true
  pub stores : (e : Brought) → IsWhole size e → as_expected m e.app ≡ true → (stored : List ℕ) × ((writing m b e ≡ Ok stored) × SoundAs m b.virt e stored)
  pub comes : (e : Brought) (blocks : List (List ℕ)) → SoundAs m b.virt e (get_or blocks (home m b.virt) []) → (frame : List ℕ) × ((reading m b blocks ≡ Ok frame) × ((length frame ≡ size + 8) × (brought_by size frame ≡ e)))

-- It stands as a check can tell, or is stopped.
abbrev pub StandsOrStops : Setting → (v : ℕ) → Brought → (altered : Type 0) → (stopped : List ℕ → Type 0) → List ℕ → Type 0
StandsOrStops m v e altered stopped x = StandsAs m v e altered x ⊎ stopped x

-- A block whose alterations are shown, on a leg of which a line may have altered what is stored: what its write stores is right or spoilt, and of what is stored so a read delivers what is right alone. It delivers none of what is `stopped`.
pub record IsShown (m : Setting) (size : ℕ) (altered : Type 0) (stopped : List ℕ → Type 0) (b : Block) : Type 0 where
  pub whole : is_stored_whole m b ≡ true
  pub stores : (e : Brought) → IsWhole size e → AllBelow 256 e.body → (stored : List ℕ) → writing m b e ≡ Ok stored → StandsAs m b.virt e altered stored
  pub comes : (e : Brought) (blocks : List (List ℕ)) → StandsAs m b.virt e altered (get_or blocks (home m b.virt) []) → (frame : List ℕ) → reading m b blocks ≡ Ok frame → (length frame ≡ size + 8) × (brought_by size frame ≡ e)
  pub stops : (blocks : List (List ℕ)) → stopped (get_or blocks (home m b.virt) []) → (frame : List ℕ) → reading m b blocks ≡ Ok frame → ⊥

-- Its good leg is fresh, and has what it was last written with; the other has it, is spoilt, holds what is stopped or is stale.
pub record Has (m : Setting) (size half u : ℕ) (leg : Bool) (altered : Type 0) (stopped : List ℕ → Type 0) (e : Brought) (blocks : List (List ℕ)) (k : Marks) : Type 0 where
  pub whole : IsWhole size e
  pub bytes : AllBelow 256 e.body
  pub good : on_leg leg k.leg0 k.leg1 ≡ true
  pub sound : SoundAs m (on_leg leg u (half + u)) e (get_or blocks (home m (on_leg leg u (half + u))) [])
  pub other : on_leg (not leg) k.leg0 k.leg1 ≡ true → StandsOrStops m (on_leg (not leg) u (half + u)) e altered stopped (get_or blocks (home m (on_leg (not leg) u (half + u))) [])

-- What is stored of it stays.
pub has-still : (m : Setting) (size half u : ℕ) (leg : Bool) (altered : Type 0) (stopped : List ℕ → Type 0) (e : Brought) (old new : List (List ℕ)) (k : Marks)
    → ((c : Bool) → get_or new (home m (on_leg c u (half + u))) [] ≡ get_or old (home m (on_leg c u (half + u))) []) → Has m size half u leg altered stopped e old k → Has m size half u leg altered stopped e new k
has-still m size half u leg altered stopped e old new k same h = record {
  whole = h.whole;
  bytes = h.bytes;
  good = h.good;
  sound = subst (SoundAs m (on_leg leg u (half + u)) e) (sym (same leg)) h.sound;
  other = λ f. subst (StandsOrStops m (on_leg (not leg) u (half + u)) e altered stopped) (sym (same (not leg))) (h.other f);
}

-- What is stopped may be more.
pub has-more : (m : Setting) (size half u : ℕ) (leg : Bool) (altered : Type 0) (stopped more : List ℕ → Type 0) (e : Brought) (blocks : List (List ℕ)) (k : Marks)
    → ((x : List ℕ) → stopped x → more x) → Has m size half u leg altered stopped e blocks k → Has m size half u leg altered more e blocks k
has-more m size half u leg altered stopped more e blocks k wide h = record {
  whole = h.whole;
  bytes = h.bytes;
  good = h.good;
  sound = h.sound;
  other = λ f. elim (h.other f) [ inl stands ↦ inl stands | inr stops ↦ inr (wide (get_or blocks (home m (on_leg (not leg) u (half + u))) []) stops) ];
}

-- What a fresh leg delivers of it is what it was last written with.
pub delivers-it : (m : Setting) (size half u : ℕ) (leg : Bool) (altered : Type 0) (stopped : List ℕ → Type 0) (e : Brought) (blocks : List (List ℕ)) (k : Marks) (b : Bool → Block) → ((c : Bool) → (b c).virt ≡ on_leg c u (half + u))
    → IsFree m size (b leg) → IsShown m size altered stopped (b (not leg)) → Has m size half u leg altered stopped e blocks k
    → (c : Bool) → on_leg c k.leg0 k.leg1 ≡ true → (frame : List ℕ) → reading m (b c) blocks ≡ Ok frame → (length frame ≡ size + 8) × (brought_by size frame ≡ e)
delivers-it m size half u leg altered stopped e blocks k b places free shown h c fresh-there frame r = by leg c free shown h.sound h.other fresh-there r where
  good : (d : Bool) → IsFree m size (b d) → SoundAs m (on_leg d u (half + u)) e (get_or blocks (home m (on_leg d u (half + u))) []) → reading m (b d) blocks ≡ Ok frame → (length frame ≡ size + 8) × (brought_by size frame ≡ e)
  good d free sound q =
      let x = free.comes e blocks (subst (λ (v : ℕ). SoundAs m v e (get_or blocks (home m v) [])) (sym (places d)) sound) in
      let z : Ok x.0 ≡ Ok frame = sym x.1.0 ∙ q in
      let same : x.0 ≡ frame = cc in
      (ap length (sym same) ∙ x.1.1.0, ap (brought_by size) (sym same) ∙ x.1.1.1)

  bad : (d : Bool) → IsShown m size altered stopped (b d) → StandsOrStops m (on_leg d u (half + u)) e altered stopped (get_or blocks (home m (on_leg d u (half + u))) []) → reading m (b d) blocks ≡ Ok frame → (length frame ≡ size + 8) × (brought_by size frame ≡ e)
  bad d shown (inl stands) q = shown.comes e blocks (subst (λ (v : ℕ). StandsAs m v e altered (get_or blocks (home m v) [])) (sym (places d)) stands) frame q
  bad d shown (inr stops) q = absurd (shown.stops blocks (subst (λ (v : ℕ). stopped (get_or blocks (home m v) [])) (sym (places d)) stops) frame q)

  by : (leg c : Bool) → IsFree m size (b leg) → IsShown m size altered stopped (b (not leg)) → SoundAs m (on_leg leg u (half + u)) e (get_or blocks (home m (on_leg leg u (half + u))) [])
      → (on_leg (not leg) k.leg0 k.leg1 ≡ true → StandsOrStops m (on_leg (not leg) u (half + u)) e altered stopped (get_or blocks (home m (on_leg (not leg) u (half + u))) []))
      → on_leg c k.leg0 k.leg1 ≡ true → reading m (b c) blocks ≡ Ok frame → (length frame ≡ size + 8) × (brought_by size frame ≡ e)
  by false false free shown sound other f q = good false free sound q
  by false true free shown sound other f q = bad true shown (other f) q
  by true false free shown sound other f q = bad false shown (other f) q
  by true true free shown sound other f q = good true free sound q

-- What a write of it leaves on one leg, by what is found there.
pub record LegWrote (m : Setting) (b : Block) (x : Brought) (new : List (List ℕ)) (found : Option Why) : Type 0 where
  pub stores : found ≡ None → (stored : List ℕ) × ((writing m b x ≡ Ok stored) × (get_or new (home m b.virt) [] ≡ stored))
  pub may : (stored : List ℕ) → writing m b x ≡ Ok stored → (found ≡ None) ⊎ (found ≡ Some Medium)

module _ (m : Setting) (size half u : ℕ) (leg : Bool) (altered : Type 0) (stopped : List ℕ → Type 0) (b : Bool → Block) (places : (c : Bool) → (b c).virt ≡ on_leg c u (half + u)) (x : Brought) (whole : IsWhole size x) (bytes : AllBelow 256 x.body) (expected : as_expected m x.app ≡ true)
    (free : IsFree m size (b leg)) (shown : IsShown m size altered stopped (b (not leg))) where
  abbrev Wrote : (left : List (List ℕ)) → (w0 w1 : Option Why) → Bool → Type 0
  Wrote left w0 w1 c = LegWrote m (b c) x left (on_leg c w0 w1)

  stored-right : (left : List (List ℕ)) (w0 w1 : Option Why) → Wrote left w0 w1 leg → on_leg leg w0 w1 ≡ None → SoundAs m (on_leg leg u (half + u)) x (get_or left (home m (on_leg leg u (half + u))) [])
  stored-right left w0 w1 w e =
      let a = w.stores e in
      let c = free.stores x whole expected in
      let q : Ok a.0 ≡ Ok c.0 = sym a.1.0 ∙ c.1.0 in
      let same : c.0 ≡ a.0 = cc in
      subst (λ (v : ℕ). SoundAs m v x (get_or left (home m v) [])) (places leg) (subst (SoundAs m (b leg).virt x) (same ∙ sym a.1.1) c.1.1)

  stored-so : (left : List (List ℕ)) (w0 w1 : Option Why) → Wrote left w0 w1 (not leg) → on_leg (not leg) w0 w1 ≡ None
      → StandsAs m (on_leg (not leg) u (half + u)) x altered (get_or left (home m (on_leg (not leg) u (half + u))) [])
  stored-so left w0 w1 w e =
      let a = w.stores e in
      subst (λ (v : ℕ). StandsAs m v x altered (get_or left (home m v) [])) (places (not leg)) (subst (StandsAs m (b (not leg)).virt x altered) (sym a.1.1) (shown.stores x whole bytes a.0 a.1.0))

  accepts : (left : List (List ℕ)) (w0 w1 : Option Why) → Wrote left w0 w1 leg → (on_leg leg w0 w1 ≡ Some Medium → ⊥) → on_leg leg w0 w1 ≡ None
  accepts left w0 w1 w off = let c = free.stores x whole expected in elim (w.may c.0 c.1.0) [ inl none ↦ none | inr medium ↦ absurd (off medium) ]

  pub record IsWrittenOn (left : List (List ℕ)) (w0 w1 : Option Why) (k : Marks) : Type 0 where
    pub has : Has m size half u leg altered stopped x left (marked w0 w1 k)
    pub unlisted : neither w0 w1 ≡ None

  pub written-on : (left : List (List ℕ)) (w0 w1 : Option Why) (k : Marks) → ((c : Bool) → LegWrote m (b c) x left (on_leg c w0 w1)) → (on_leg leg w0 w1 ≡ Some Medium → ⊥) → IsWrittenOn left w0 w1 k
  written-on left w0 w1 k wrote off =
      let none = accepts left w0 w1 (wrote leg) off in
      record {
        has = record {
          whole = whole;
          bytes = bytes;
          good = (fresh-after leg w0 w1 none).0;
          sound = stored-right left w0 w1 (wrote leg) none;
          other = λ f. inl (stored-so left w0 w1 (wrote (not leg)) (none-there leg w0 w1 none f));
        };
        unlisted = (fresh-after leg w0 w1 none).1;
      }
    where
      -- what is accepted on a leg is fresh there, and isn't listed
      fresh-after : (c : Bool) (w0 w1 : Option Why) → on_leg c w0 w1 ≡ None → (on_leg c (marked w0 w1 k).leg0 (marked w0 w1 k).leg1 ≡ true) × (neither w0 w1 ≡ None)
      fresh-after false None None e = (refl, refl)
      fresh-after false None (Some w) e = (refl, refl)
      fresh-after false (Some w) w1 e = absurd cc
      fresh-after true None None e = (refl, refl)
      fresh-after true (Some w) None e = (refl, refl)
      fresh-after true w0 (Some w) e = absurd cc

      -- and the other leg is fresh only where it accepted it too
      none-there : (c : Bool) (w0 w1 : Option Why) → on_leg c w0 w1 ≡ None → on_leg (not c) (marked w0 w1 k).leg0 (marked w0 w1 k).leg1 ≡ true → on_leg (not c) w0 w1 ≡ None
      none-there false None None e f = refl
      none-there false None (Some w) e f = absurd (false≢true f)
      none-there false (Some w) w1 e f = absurd cc
      none-there true None None e f = refl
      none-there true (Some w) None e f = absurd (false≢true f)
      none-there true w0 (Some w) e f = absurd cc
