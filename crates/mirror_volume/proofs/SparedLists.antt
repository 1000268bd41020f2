-- What is found of one block of a look of a repair, and what it needs.
use Rattle.std.proofs.Common.{◌≡◌, ◌<◌, ◌≤◌, ℕ, zero, suc, ◌+◌, ◌-◌, Bool, true, false, ◌&&◌, eqb, is_none, List, [], ◌∷◌, ◌++◌, length, get_or, set, take, drop, Option, Some, None, refl, sym, ap, ◌∙◌, arith, length-append}
use Rattle.std.specs.Prelude.{is_some, nat_lt}
use Rattle.std.proofs.lemmas.Bool.{eqb-false, eqb-true, false≢true, ltb-false, ltb-true}
use Rattle.std.proofs.lemmas.List.{get_or-append_right, get_or-drop, get_or-set_other, get_or-set_same, get_or-take, get_or_append_left, length-drop, length-set, length-take-le}
use Rattle.bio_core.specs.declared.fate.Why.{Why}
use Rattle.walk_laws.specs.Past.{Brought}
use Rattle.mirror_laws.specs.Mirror.{fresh, is_none as bare, marks_of}
use Rattle.mirror_laws.specs.OneGood.{on_leg}
use Rattle.mirror_laws.specs.Stretches.{Fine, Lost, Need, On0, On1, marks_mended}
use Rattle.mirror_laws.specs.declared.marks.Marks.{Marks}
use Rattle.mirror_volume.specs.Asked.{pasted}
use Rattle.mirror_volume.specs.Mending.{delivered, goods, needs_by}

-- ---- a part that was asked

pub part-long : {X : Type 0} (at : ℕ) (part all : List X) → at + length part ≤ length all → length (pasted at part all) ≡ length all
part-long at part all l =
    let a = length-append (take at all) (part ++ drop (at + length part) all) in
    let b = length-append part (drop (at + length part) all) in
    let c = length-take-le at all (omega (arith, l)) in
    let d = length-drop (at + length part) all in
    omega (arith, a, b, c, d, l)

-- Where nothing is found of a block, in the part and before it, nothing is afterwards.
pub part-none : (at : ℕ) (part all : List (Option Why)) (j : ℕ) → at + length part ≤ length all → get_or all j None ≡ None → ((k : ℕ) → k < length part → at + k ≡ j → get_or part k None ≡ None) → get_or (pasted at part all) j None ≡ None
part-none at part all j l old new = by (nat_lt j at) refl (nat_lt j (at + length part)) refl where
  first : length (take at all) ≡ at
  first = length-take-le at all (omega (arith, l))

  by : (c : Bool) → nat_lt j at ≡ c → (d : Bool) → nat_lt j (at + length part) ≡ d → get_or (pasted at part all) j None ≡ None
  by true e d f =
      let below = ltb-true j at e in
      get_or_append_left (take at all) (part ++ drop (at + length part) all) None j (omega (arith, below, first)) ∙ get_or-take at all j None below ∙ old
  by false e true f =
      let from = ltb-false j at e in
      let below = ltb-true j (at + length part) f in
      get_or-append_right (take at all) (part ++ drop (at + length part) all) at j None first from
      ∙ get_or_append_left part (drop (at + length part) all) None (j - at) (omega (arith, from, below))
      ∙ new (j - at) (omega (arith, from, below)) (omega (arith, from))
  by false e false f =
      let from = ltb-false j at e in
      let behind = ltb-false j (at + length part) f in
      let z : (at + length part) + ((j - at) - length part) ≡ j = omega (arith, behind) in
      get_or-append_right (take at all) (part ++ drop (at + length part) all) at j None first from
      ∙ get_or-append_right part (drop (at + length part) all) (length part) (j - at) None refl (omega (arith, behind))
      ∙ get_or-drop (at + length part) all ((j - at) - length part) None
      ∙ ap (λ k. get_or all k None) z ∙ old

-- ---- what is delivered, and good

pub delivered-few : (wanted : List Bool) (found : List (Option Why)) → length (delivered wanted found) ≤ length wanted
delivered-few [] found = omega arith
delivered-few (w ∷ wanted) [] = omega arith
delivered-few (w ∷ wanted) (why ∷ found) = let r = delivered-few wanted found in omega (arith, r)

pub delivered-at : (wanted : List Bool) (found : List (Option Why)) (j : ℕ) → j < length found → get_or wanted j false ≡ true → get_or found j None ≡ None → get_or (delivered wanted found) j false ≡ true
delivered-at [] found j l w n = w
delivered-at (w ∷ wanted) [] j l h n = absurd (omega (arith, l))
delivered-at (w ∷ wanted) (why ∷ found) zero l h n = (λ i. h i && is_none (n i))
delivered-at (w ∷ wanted) (why ∷ found) (suc j) l h n = delivered-at wanted found j (omega (arith, l)) h n

pub goods-at : (size : ℕ) (good : List Bool) (bytes tuples : List ℕ) (j : ℕ) → get_or good j false ≡ true → is_some (get_or (goods size good bytes tuples) j None) ≡ true
goods-at size [] bytes tuples j h = absurd (false≢true h)
goods-at size (true ∷ good) bytes tuples zero h = refl
goods-at size (false ∷ good) bytes tuples zero h = absurd (false≢true h)
goods-at size (d ∷ good) bytes tuples (suc j) h = goods-at size good (drop size bytes) (drop 8 tuples) j h

-- ---- what is needed

-- It isn't written on this leg.
abbrev pub SparesLeg : (leg : Bool) → Need → Type 0
SparesLeg leg Fine = Unit {0}
SparesLeg false (On0 e) = ⊥
SparesLeg true (On0 e) = Unit {0}
SparesLeg false (On1 e) = Unit {0}
SparesLeg true (On1 e) = ⊥
SparesLeg leg Lost = Unit {0}

pub needs-few : (ones others : List (Option Brought)) → length (needs_by ones others) ≤ length ones
needs-few [] others = omega arith
needs-few (one ∷ ones) [] = omega arith
needs-few (one ∷ ones) (other ∷ others) = let r = needs-few ones others in omega (arith, r)

-- what is good on a leg isn't written there
pub needs-first : (ones others : List (Option Brought)) (j : ℕ) → (j < length ones → is_some (get_or ones j None) ≡ true) → SparesLeg false (get_or (needs_by ones others) j Fine)
needs-first [] others j h = tt
needs-first (one ∷ ones) [] j h = tt
needs-first (None ∷ ones) (other ∷ others) zero h = absurd (false≢true (h (omega arith)))
needs-first (Some e ∷ ones) (None ∷ others) zero h = tt
needs-first (Some e ∷ ones) (Some f ∷ others) zero h = tt
needs-first (one ∷ ones) (other ∷ others) (suc j) h = needs-first ones others j (λ l. h (omega (arith, l)))

pub needs-second : (ones others : List (Option Brought)) (j : ℕ) → (j < length others → is_some (get_or others j None) ≡ true) → SparesLeg true (get_or (needs_by ones others) j Fine)
needs-second [] others j h = tt
needs-second (one ∷ ones) [] j h = tt
needs-second (one ∷ ones) (None ∷ others) zero h = absurd (false≢true (h (omega arith)))
needs-second (None ∷ ones) (Some f ∷ others) zero h = tt
needs-second (Some e ∷ ones) (Some f ∷ others) zero h = tt
needs-second (one ∷ ones) (other ∷ others) (suc j) h = needs-second ones others j (λ l. h (omega (arith, l)))

-- ---- the marks of a block that isn't written on a leg

-- whether it is fresh there
abbrev pub bit_on : (leg : Bool) → Marks → Bool
bit_on leg k = on_leg leg k.leg0 k.leg1

set-bit : (leg : Bool) (u c : ℕ) (x : Marks) (marks : List Marks) → u < length marks → (c ≡ u → bit_on leg x ≡ bit_on leg (marks_of marks c)) → bit_on leg (marks_of (set marks c x) u) ≡ bit_on leg (marks_of marks u)
set-bit leg u c x marks l h = by (eqb c u) refl where
  by : (d : Bool) → eqb c u ≡ d → bit_on leg (marks_of (set marks c x) u) ≡ bit_on leg (marks_of marks u)
  by true q =
      let e = eqb-true c u q in
      ap (λ k. bit_on leg (marks_of (set marks k x) u)) e ∙ ap (bit_on leg) (get_or-set_same marks u x fresh l) ∙ h e ∙ ap (λ k. bit_on leg (marks_of marks k)) e
  by false q = ap (bit_on leg) (get_or-set_other marks c u x fresh (λ z. eqb-false c u q (sym z)))

pub bits-spared : (leg : Bool) (u c : ℕ) (ns : List Need) (whys : List (Option Why)) (marks : List Marks) → u < length marks → ((j : ℕ) → c + j ≡ u → SparesLeg leg (get_or ns j Fine))
    → bit_on leg (marks_of (marks_mended c ns whys marks) u) ≡ bit_on leg (marks_of marks u)
bits-spared leg u c [] whys marks l h = refl
bits-spared leg u c (Fine ∷ ns) whys marks l h = bits-spared leg u (suc c) ns whys marks l (λ j e. h (suc j) (omega (arith, e)))
bits-spared leg u c (Lost ∷ ns) whys marks l h = bits-spared leg u (suc c) ns whys marks l (λ j e. h (suc j) (omega (arith, e)))
bits-spared leg u c (On0 x ∷ ns) [] marks l h = refl
bits-spared leg u c (On1 x ∷ ns) [] marks l h = refl
bits-spared leg u c (On0 x ∷ ns) (why ∷ whys) marks l h =
    let now = set marks c (record (marks_of marks c) { leg0 = bare why }) in
    let k = length-set marks c (record (marks_of marks c) { leg0 = bare why }) in
    bits-spared leg u (suc c) ns whys now (omega (arith, k, l)) (λ j e. h (suc j) (omega (arith, e)))
    ∙ set-bit leg u c (record (marks_of marks c) { leg0 = bare why }) marks l (λ e. by leg (h 0 (omega (arith, e))))
  where
    by : (d : Bool) → SparesLeg d (On0 x) → bit_on d (record (marks_of marks c) { leg0 = bare why }) ≡ bit_on d (marks_of marks c)
    by false g = absurd g
    by true g = refl
bits-spared leg u c (On1 x ∷ ns) (why ∷ whys) marks l h =
    let now = set marks c (record (marks_of marks c) { leg1 = bare why }) in
    let k = length-set marks c (record (marks_of marks c) { leg1 = bare why }) in
    bits-spared leg u (suc c) ns whys now (omega (arith, k, l)) (λ j e. h (suc j) (omega (arith, e)))
    ∙ set-bit leg u c (record (marks_of marks c) { leg1 = bare why }) marks l (λ e. by leg (h 0 (omega (arith, e))))
  where
    by : (d : Bool) → SparesLeg d (On1 x) → bit_on d (record (marks_of marks c) { leg1 = bare why }) ≡ bit_on d (marks_of marks c)
    by false g = refl
    by true g = absurd g
