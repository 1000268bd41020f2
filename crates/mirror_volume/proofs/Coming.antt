-- A read by its runs on both legs is what comes of each block.
use Rattle.std.proofs.Common.{◌≡◌, ◌<◌, ℕ, suc, ◌+◌, Bool, true, false, not, ◌&&◌, ◌||◌, if◌then◌else◌, is_none, is_some, List, [], ◌∷◌, length, map, get_or, replicate, Option, None, Result, Ok, Err, refl, ap, ◌∙◌, arith}
use Rattle.bio_core.specs.declared.fate.Why.{Why}
use Rattle.walk_laws.specs.Steps.{each_from}
use Rattle.mirror_laws.specs.declared.marks.Marks.{Marks}
use Rattle.mirror_laws.specs.Mirror.{fresh, marks_of}
use Rattle.mirror_laws.specs.OnLegs.{come, landed_by, or_other, why_of}
use Rattle.mirror_volume.specs.Asked.{first_listed, fresh_on0, last_listed, rest_wanted}
use Rattle.mirror_volume.proofs.Painting.{chosen}

-- no block is stale on both legs
abbrev pub NeverTwo : List Marks → Type 0
NeverTwo [] = Unit {0}
NeverTwo (k ∷ marks) = ((k.leg0 || k.leg1) ≡ true) × NeverTwo marks

module _ (f0 f1 : ℕ → Result (List ℕ) Why) where
  abbrev pub why0 : ℕ → Option Why
  why0 j = why_of (f0 j)

  abbrev pub why1 : ℕ → Option Why
  why1 j = why_of (f1 j)

  -- what comes of each block, from place `at` on
  abbrev pub each_comes : (at : ℕ) → List Marks → List (Result (List ℕ) Why)
  each_comes at [] = []
  each_comes at (k ∷ marks) = come k (f0 at) (f1 at) ∷ each_comes (suc at) marks

  abbrev pub found_first : (at : ℕ) → List Marks → List (Option Why)
  found_first at marks = chosen why0 at (fresh_on0 marks) (replicate (length marks) None)

  abbrev pub found_last : (at : ℕ) → List Marks → List (Option Why)
  found_last at marks = chosen why1 at (rest_wanted marks (found_first at marks)) (found_first at marks)

  listed-one : (k : Marks) (a b : Result (List ℕ) Why) → (k.leg0 || k.leg1) ≡ true →
      (if ((k.leg1 && (not k.leg0 || is_some (if k.leg0 then why_of a else None))) && (not k.leg0 || is_none (if (k.leg1 && (not k.leg0 || is_some (if k.leg0 then why_of a else None))) then why_of b else (if k.leg0 then why_of a else None))))
      then (if (k.leg1 && (not k.leg0 || is_some (if k.leg0 then why_of a else None))) then why_of b else (if k.leg0 then why_of a else None))
      else (if k.leg0 then (if k.leg0 then why_of a else None) else None)) ≡ why_of (come k a b)
  listed-one k a b h = by k.leg0 k.leg1 a b h where
    by : (f g : Bool) (a b : Result (List ℕ) Why) → (f || g) ≡ true →
        (if ((g && (not f || is_some (if f then why_of a else None))) && (not f || is_none (if (g && (not f || is_some (if f then why_of a else None))) then why_of b else (if f then why_of a else None))))
        then (if (g && (not f || is_some (if f then why_of a else None))) then why_of b else (if f then why_of a else None))
        else (if f then (if f then why_of a else None) else None)) ≡ why_of (if f then or_other g a b else b)
    by true true (Ok x) b h = refl
    by true true (Err w) (Ok y) h = refl
    by true true (Err w) (Err z) h = refl
    by true false (Ok x) b h = refl
    by true false (Err w) b h = refl
    by false true a (Ok y) h = refl
    by false true a (Err z) h = refl
    by false false a b h = absurd cc

  pub all-listed : (at : ℕ) (marks : List Marks) → NeverTwo marks →
      last_listed marks (rest_wanted marks (found_first at marks)) (first_listed marks (found_first at marks)) (found_last at marks) ≡ map why_of (each_comes at marks)
  all-listed at [] h = refl
  all-listed at (k ∷ marks) h =
      ap (λ x. x ∷ last_listed marks (rest_wanted marks (found_first (suc at) marks)) (first_listed marks (found_first (suc at) marks)) (found_last (suc at) marks)) (listed-one k (f0 at) (f1 at) h.0)
      ∙ ap (λ xs. why_of (come k (f0 at) (f1 at)) ∷ xs) (all-listed (suc at) marks h.1)

  -- ---- the data

  module _ (size : ℕ) where
    abbrev pub land0 : ℕ → List ℕ
    land0 j = landed_by size (f0 j)

    abbrev pub land1 : ℕ → List ℕ
    land1 j = landed_by size (f1 j)

    abbrev pub landed_first : (at : ℕ) → List Marks → List (List ℕ)
    landed_first at marks = chosen land0 at (fresh_on0 marks) (replicate (length marks) (replicate size 0))

    abbrev pub landed_last : (at : ℕ) → List Marks → List (List ℕ)
    landed_last at marks = chosen land1 at (rest_wanted marks (found_first at marks)) (landed_first at marks)

    landed-one : (k : Marks) (a b : Result (List ℕ) Why) → (k.leg0 || k.leg1) ≡ true →
        (if (k.leg1 && (not k.leg0 || is_some (if k.leg0 then why_of a else None))) then landed_by size b else (if k.leg0 then landed_by size a else replicate size 0)) ≡ landed_by size (come k a b)
    landed-one k a b h = by k.leg0 k.leg1 a b h where
      by : (f g : Bool) (a b : Result (List ℕ) Why) → (f || g) ≡ true →
          (if (g && (not f || is_some (if f then why_of a else None))) then landed_by size b else (if f then landed_by size a else replicate size 0)) ≡ landed_by size (if f then or_other g a b else b)
      by true true (Ok x) b h = refl
      by true true (Err w) (Ok y) h = refl
      by true true (Err w) (Err z) h = refl
      by true false (Ok x) b h = refl
      by true false (Err w) b h = refl
      by false true a b h = refl
      by false false a b h = absurd cc

    pub all-data : (at : ℕ) (marks : List Marks) → NeverTwo marks → landed_last at marks ≡ map (landed_by size) (each_comes at marks)
    all-data at [] h = refl
    all-data at (k ∷ marks) h =
        ap (λ x. x ∷ landed_last (suc at) marks) (landed-one k (f0 at) (f1 at) h.0) ∙ ap (λ xs. landed_by size (come k (f0 at) (f1 at)) ∷ xs) (all-data (suc at) marks h.1)

-- ---- by the marks of all blocks

pub comes-each : (f0 f1 : ℕ → Result (List ℕ) Why) (all : List Marks) (v at : ℕ) (marks : List Marks) → ((j : ℕ) → j < length marks → get_or marks j fresh ≡ marks_of all (v + (at + j))) →
    each_comes f0 f1 at marks ≡ each_from at (length marks) (λ j. come (marks_of all (v + j)) (f0 j) (f1 j))
comes-each f0 f1 all v at [] h = refl
comes-each f0 f1 all v at (k ∷ marks) h =
    let z : at + 0 ≡ at = omega arith in
    let e : k ≡ marks_of all (v + at) = h 0 (omega arith) ∙ ap (λ j. marks_of all (v + j)) z in
    ap (λ x. come x (f0 at) (f1 at) ∷ each_comes f0 f1 (suc at) marks) e
    ∙ ap (λ xs. come (marks_of all (v + at)) (f0 at) (f1 at) ∷ xs) (comes-each f0 f1 all v (suc at) marks (λ j l. h (suc j) (omega (arith, l)) ∙ (let s : at + suc j ≡ suc at + j = omega arith in ap (λ x. marks_of all (v + x)) s)))
