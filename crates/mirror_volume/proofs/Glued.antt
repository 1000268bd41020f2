-- What came of stretches, request by request, as one thing for each block.
use Rattle.std.proofs.Common.{◌≡◌, ◌<◌, ◌≤◌, ℕ, zero, suc, ◌+◌, ◌-◌, Bool, true, false, if◌then◌else◌, List, [], ◌∷◌, refl, sym, ap, ◌∙◌, arith}
use Rattle.std.specs.Prelude.{nat_le, nat_lt}
use Rattle.std.proofs.lemmas.Bool.{le-leb, leb-true, lt-ltb, ltb-true}
use Rattle.mirror_volume.specs.Asked.{stretches, stretches_from}
use Rattle.mirror_volume.specs.LegRuns.{LegRun}

-- Each begins where the one before it ended, or behind that.
abbrev pub Ascends : (from : ℕ) → List (ℕ × ℕ) → Type 0
Ascends from [] = Unit {0}
Ascends from (q ∷ ss) = (from ≤ q.0) × Ascends (q.0 + q.1) ss

ascends-from : (low at many : ℕ) (wanted : List Bool) → low + many ≤ at → Ascends low (stretches_from at many wanted)
ascends-from low at zero [] l = tt
ascends-from low at (suc many) [] l = (omega (arith, l), tt)
ascends-from low at many (true ∷ wanted) l = ascends-from low (suc at) (suc many) wanted (omega (arith, l))
ascends-from low at zero (false ∷ wanted) l = ascends-from low (suc at) 0 wanted (omega (arith, l))
ascends-from low at (suc many) (false ∷ wanted) l = (omega (arith, l), ascends-from ((at - suc many) + suc many) (suc at) 0 wanted (omega (arith, l)))

pub all-ascend : (wanted : List Bool) → Ascends 0 (stretches wanted)
all-ascend wanted = ascends-from 0 0 0 wanted (omega arith)

module _ {X : Type 0} (Part : ℕ × ℕ → LegRun → (ℕ → X) → Type 0)
    (local : (q : ℕ × ℕ) (r : LegRun) (f g : ℕ → X) → ((j : ℕ) → q.0 ≤ j → j < q.0 + q.1 → f j ≡ g j) → Part q r f → Part q r g)
    (Fits : ℕ → X → Type 0) (base : ℕ → X) (base-fits : (j : ℕ) → Fits j (base j)) where
  -- so it is of each stretch, by one function
  abbrev pub AllParts : List (ℕ × ℕ) → List LegRun → (ℕ → X) → Type 0
  AllParts [] runs f = Unit {0}
  AllParts (q ∷ ss) [] f = Unit {0}
  AllParts (q ∷ ss) (r ∷ runs) f = Part q r f × AllParts ss runs f

  -- each by its own
  pub record OnePart (q : ℕ × ℕ) (r : LegRun) : Type 0 where
    pub f : ℕ → X
    pub part : Part q r f
    pub fits : (j : ℕ) → q.0 ≤ j → j < q.0 + q.1 → Fits j (f j)

  abbrev pub EachPart : List (ℕ × ℕ) → List LegRun → Type 0
  EachPart [] runs = Unit {0}
  EachPart (q ∷ ss) [] = Unit {0}
  EachPart (q ∷ ss) (r ∷ runs) = OnePart q r × EachPart ss runs

  parts-same : (ss : List (ℕ × ℕ)) (runs : List LegRun) (from : ℕ) (f g : ℕ → X) → Ascends from ss → ((j : ℕ) → from ≤ j → f j ≡ g j) → AllParts ss runs f → AllParts ss runs g
  parts-same [] runs from f g a h p = tt
  parts-same (q ∷ ss) [] from f g a h p = tt
  parts-same (q ∷ ss) (r ∷ runs) from f g a h p = (
    local q r f g (λ j l k. h j (let x = a.0 in omega (arith, x, l))) p.0,
    parts-same ss runs (q.0 + q.1) f g a.1 (λ j l. h j (let x = a.0 in omega (arith, x, l))) p.1,
  )

  pub record Glued (ss : List (ℕ × ℕ)) (runs : List LegRun) : Type 0 where
    pub f : ℕ → X
    pub parts : AllParts ss runs f
    pub fits : (j : ℕ) → Fits j (f j)

  -- the one below this bound, the other from there on
  abbrev pick : (low high : ℕ) → (f g : ℕ → X) → ℕ → X
  pick low high f g j = if nat_lt j high then (if nat_le low j then f j else base j) else g j

  pick-in : (low high : ℕ) (f g : ℕ → X) (j : ℕ) → low ≤ j → j < high → f j ≡ pick low high f g j
  pick-in low high f g j l h =
      sym (ap (λ (c : Bool). if c then (if nat_le low j then f j else base j) else g j) (lt-ltb j high h) ∙ ap (λ (c : Bool). if c then f j else base j) (le-leb low j l))

  pick-behind : (low high : ℕ) (f g : ℕ → X) (j : ℕ) → high ≤ j → g j ≡ pick low high f g j
  pick-behind low high f g j l = by (nat_lt j high) refl where
    by : (c : Bool) → nat_lt j high ≡ c → g j ≡ pick low high f g j
    by true e = absurd (let x = ltb-true j high e in omega (arith, x, l))
    by false e = sym (ap (λ (c : Bool). if c then (if nat_le low j then f j else base j) else g j) e)

  pick-fits : (low high : ℕ) (f g : ℕ → X) → ((j : ℕ) → low ≤ j → j < high → Fits j (f j)) → ((j : ℕ) → Fits j (g j)) → (j : ℕ) → Fits j (pick low high f g j)
  pick-fits low high f g h k j = by (nat_lt j high) refl (nat_le low j) refl where
    by : (c : Bool) → nat_lt j high ≡ c → (d : Bool) → nat_le low j ≡ d → Fits j (if c then (if d then f j else base j) else g j)
    by true e true q = h j (leb-true low j q) (ltb-true j high e)
    by true e false q = base-fits j
    by false e d q = k j

  pub glue : (ss : List (ℕ × ℕ)) (runs : List LegRun) (from : ℕ) → Ascends from ss → EachPart ss runs → Glued ss runs
  glue [] runs from a e = record { f = base; parts = tt; fits = base-fits }
  glue (q ∷ ss) [] from a e = record { f = base; parts = tt; fits = base-fits }
  glue (q ∷ ss) (r ∷ runs) from a e =
      let rest = glue ss runs (q.0 + q.1) a.1 e.1 in
      let own = e.0 in
      record {
        f = pick q.0 (q.0 + q.1) own.f rest.f;
        parts = (
          local q r own.f (pick q.0 (q.0 + q.1) own.f rest.f) (λ j l k. pick-in q.0 (q.0 + q.1) own.f rest.f j l k) own.part,
          parts-same ss runs (q.0 + q.1) rest.f (pick q.0 (q.0 + q.1) own.f rest.f) a.1 (λ j l. pick-behind q.0 (q.0 + q.1) own.f rest.f j l) rest.parts,
        );
        fits = pick-fits q.0 (q.0 + q.1) own.f rest.f own.fits rest.fits;
      }
