-- A list whose front moves one further.
use Rattle.std.proofs.Common.{◌≡◌, ◌<◌, ℕ, zero, suc, ◌+◌, ◌-◌, List, [], ◌∷◌, ◌++◌, length, take, drop, refl, sym, ap, ◌∙◌, arith, length-append}
use Rattle.std.specs.List.{remove}
use Rattle.std.proofs.lemmas.List.{append-nil, drop-append-le, drop_all, length-drop, length-take-le, take-take, take_all}
use Rattle.std.proofs.Math.Seq.{drop-append-add, drop-append_seam}

removed : (xs : List ℕ) (q : ℕ) → remove xs q ≡ take q xs ++ drop (suc q) xs
removed [] zero = refl
removed [] (suc q) = refl
removed (x ∷ xs) zero = refl
removed (x ∷ xs) (suc q) = ap (λ ys. x ∷ ys) (removed xs q)

-- the last of these comes to their front, and the others stand behind it
turned-rest : (m s turned : List ℕ) (q : ℕ) → q < length m → s ≡ take (q + 1) m → turned ≡ drop (length s - 1) s ++ take (length s - 1) s →
    (length turned ≡ q + 1) × (drop 1 turned ≡ take q m)
turned-rest m s turned q l e t =
    let ls : length s ≡ q + 1 = ap length e ∙ length-take-le (q + 1) m (omega arith) in
    let k : length s - 1 ≡ q = omega (arith, ls) in
    let t' : turned ≡ drop q s ++ take q s = t ∙ ap (λ j. drop j s ++ take j s) k in
    let one : length (drop q s) ≡ 1 = let d = length-drop q s in omega (arith, d, ls) in
    let rest : take q s ≡ take q m = ap (take q) e ∙ take-take q (q + 1) m (omega arith) in
    let long : length (take q m) ≡ q = length-take-le q m (omega arith) in
    let a = length-append (drop q s) (take q s) in (
      ap length t' ∙ (let r = ap length rest in omega (arith, a, one, long, r)),
      ap (drop 1) t' ∙ ap (λ j. drop j (drop q s ++ take q s)) (sym one) ∙ drop-append_seam (drop q s) (take q s) ∙ rest,
    )

pub closed : (xs s turned : List ℕ) (first q n : ℕ) → first + q < length xs → n ≡ length xs → s ≡ take (q + 1) (drop first xs) →
    turned ≡ drop (length s - 1) s ++ take (length s - 1) s →
    drop (first + 1) (take n (take first xs ++ (turned ++ drop (length turned) (drop first xs)) ++ drop (length (take first xs ++ (turned ++ drop (length turned) (drop first xs)))) xs)) ≡ remove (drop first xs) q
closed xs s turned first q n l e f t =
    let m : List ℕ = drop first xs in
    let lm : length m ≡ length xs - first = length-drop first xs in
    let r = turned-rest m s turned q (omega (arith, lm)) f t in
    let front : length (take first xs) ≡ first = length-take-le first xs (omega arith) in
    let back : List ℕ = turned ++ drop (length turned) m in
    let whole : List ℕ = take first xs ++ back in
    let lb : length back ≡ length m = length-append turned (drop (length turned) m) ∙ (let d = length-drop (length turned) m in omega (arith, d, r.0, lm)) in
    let lw : length whole ≡ length xs = length-append (take first xs) back ∙ omega (arith, front, lb, lm) in
    let none : drop (length whole) xs ≡ [] = drop_all (length whole) xs (omega (arith, lw)) in
    ap (λ z. drop (first + 1) (take n (whole ++ z))) none
    ∙ ap (λ z. drop (first + 1) (take n z)) (append-nil whole)
    ∙ ap (drop (first + 1)) (take_all n whole (omega (arith, lw, e)))
    ∙ ap (λ z. drop (z + 1) whole) (sym front)
    ∙ drop-append-add (take first xs) back 1
    ∙ drop-append-le 1 turned (drop (length turned) m) (omega (arith, r.0))
    ∙ ap (λ z. z ++ drop (length turned) m) r.1
    ∙ ap (λ z. take q m ++ drop z m) (let z : length turned ≡ suc q = omega (arith, r.0) in z)
    ∙ sym (removed m q)
