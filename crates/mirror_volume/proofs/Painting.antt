-- What is asked stretch by stretch is asked of each wanted block.
use Rattle.std.proofs.Common.{◌≡◌, ℕ, zero, suc, ◌+◌, ◌-◌, Bool, true, false, if◌then◌else◌, List, [], ◌∷◌, ◌++◌, length, drop, refl, sym, ap, ◌∙◌, arith}
use Rattle.std.proofs.lemmas.List.{append_assoc, drop_at, length-append, take_at}
use Rattle.walk_laws.specs.Steps.{each_from}
use Rattle.walk_laws.proofs.InSteps.{each_length}
use Rattle.mirror_volume.specs.Asked.{ended, pasted, stretches, stretches_from}

-- ---- a part in the middle

pub pasted-mid : {X : Type 0} (at : ℕ) (part before mid after : List X) → length before ≡ at → length part ≡ length mid → pasted at part (before ++ (mid ++ after)) ≡ before ++ (part ++ after)
pasted-mid at part before mid after b p =
    let whole : length (before ++ mid) ≡ at + length part = length-append before mid ∙ (let q : length mid ≡ length part = sym p in omega (arith, b, q)) in
    ap (λ xs. xs ++ (part ++ drop (at + length part) (before ++ (mid ++ after)))) (take_at before (mid ++ after) at b)
    ∙ ap (λ xs. before ++ (part ++ xs)) (ap (λ xs. drop (at + length part) xs) (sym (append_assoc before mid after)) ∙ drop_at (before ++ mid) after (at + length part) whole)

pub each-last : {X : Type 0} (k n : ℕ) (f : ℕ → X) → each_from k (suc n) f ≡ each_from k n f ++ (f (k + n) ∷ [])
each-last k zero f = let e : k ≡ k + 0 = omega arith in ap (λ j. f j ∷ []) e
each-last k (suc n) f = let e : suc k + n ≡ k + suc n = omega arith in ap (λ xs. f k ∷ xs) (each-last (suc k) n f ∙ ap (λ j. each_from (suc k) n f ++ (f j ∷ [])) e)

-- ---- stretch by stretch

module _ {X : Type 0} (f : ℕ → X) where
  -- each stretch gets what f says of its blocks
  abbrev pub painted : List (ℕ × ℕ) → List X → List X
  painted [] xs = xs
  painted (s ∷ ss) xs = painted ss (pasted s.0 (each_from s.0 s.1 f) xs)

  -- what f says of each wanted block, from place `at` on, and what was there of any other
  abbrev pub chosen : (at : ℕ) → List Bool → List X → List X
  chosen at [] xs = []
  chosen at (w ∷ wanted) [] = []
  chosen at (w ∷ wanted) (x ∷ xs) = (if w then f at else x) ∷ chosen (suc at) wanted xs

  painted-both : (ss ts : List (ℕ × ℕ)) (xs : List X) → painted (ss ++ ts) xs ≡ painted ts (painted ss xs)
  painted-both [] ts xs = refl
  painted-both (s ∷ ss) ts xs = painted-both ss ts (pasted s.0 (each_from s.0 s.1 f) xs)

  painted-end : (at many : ℕ) (before mid after : List X) → length before + many ≡ at → length mid ≡ many → painted (ended at many) (before ++ (mid ++ after)) ≡ before ++ (each_from (at - many) many f ++ after)
  painted-end at zero before [] after b m = refl
  painted-end at zero before (x ∷ mid) after b m = absurd (omega (arith, m))
  painted-end at (suc n) before mid after b m =
      pasted-mid (at - suc n) (each_from (at - suc n) (suc n) f) before mid after (omega (arith, b)) (each_length (at - suc n) (suc n) f ∙ sym m)

  pub from-stretches : (at many : ℕ) (wanted : List Bool) (before mid after : List X) → length before + many ≡ at → length mid ≡ many → length after ≡ length wanted →
      painted (stretches_from at many wanted) (before ++ (mid ++ after)) ≡ before ++ (each_from (at - many) many f ++ chosen at wanted after)
  from-stretches at many [] before mid [] b m l = painted-end at many before mid [] b m
  from-stretches at many [] before mid (x ∷ after) b m l = absurd (omega (arith, l))
  from-stretches at many (w ∷ wanted) before mid [] b m l = absurd (omega (arith, l))
  from-stretches at many (true ∷ wanted) before mid (x ∷ after) b m l =
      let first : suc at - suc many ≡ at - many = omega arith in
      let place : (at - many) + many ≡ at = omega (arith, b) in
      ap (λ xs. painted (stretches_from (suc at) (suc many) wanted) (before ++ xs)) (sym (append_assoc mid (x ∷ []) after))
      ∙ from-stretches (suc at) (suc many) wanted before (mid ++ (x ∷ [])) after (omega (arith, b)) (length-append mid (x ∷ []) ∙ (omega (arith, m))) (omega (arith, l))
      ∙ ap (λ k. before ++ (each_from k (suc many) f ++ chosen (suc at) wanted after)) first
      ∙ ap (λ xs. before ++ (xs ++ chosen (suc at) wanted after)) (each-last (at - many) many f ∙ ap (λ k. each_from (at - many) many f ++ (f k ∷ [])) place)
      ∙ ap (λ xs. before ++ xs) (append_assoc (each_from (at - many) many f) (f at ∷ []) (chosen (suc at) wanted after))
  from-stretches at many (false ∷ wanted) before mid (x ∷ after) b m l =
      let own = each_from (at - many) many f in
      let long : length (before ++ (own ++ (x ∷ []))) + 0 ≡ suc at =
      (let p = length-append before (own ++ (x ∷ [])) in let q = length-append own (x ∷ []) in let r = each_length (at - many) many f in omega (arith, p, q, r, b)) in
      painted-both (ended at many) (stretches_from (suc at) 0 wanted) (before ++ (mid ++ (x ∷ after)))
      ∙ ap (λ xs. painted (stretches_from (suc at) 0 wanted) xs) (painted-end at many before mid (x ∷ after) b m
      ∙ ap (λ xs. before ++ xs) (sym (append_assoc own (x ∷ []) after)) ∙ sym (append_assoc before (own ++ (x ∷ [])) after))
      ∙ from-stretches (suc at) 0 wanted (before ++ (own ++ (x ∷ []))) [] after long refl (omega (arith, l))
      ∙ append_assoc before (own ++ (x ∷ [])) (chosen (suc at) wanted after)
      ∙ ap (λ xs. before ++ xs) (append_assoc own (x ∷ []) (chosen (suc at) wanted after))

  -- all stretches of a list
  pub all-stretches : (wanted : List Bool) (xs : List X) → length xs ≡ length wanted → painted (stretches wanted) xs ≡ chosen 0 wanted xs
  all-stretches wanted xs l = from-stretches 0 0 wanted [] [] xs refl refl l
