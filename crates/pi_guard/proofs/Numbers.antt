-- Sums of numbers of 32 bits in lanes: modulo 2 ^ 32, and of their upper halves.
use Rattle.std.proofs.Common.{◌≡◌, ℕ, ◌+◌, ◌-◌, ◌*◌, ◌/◌, ◌%◌, ◌^◌, ◌<◌, List, [], ◌∷◌, length, map, refl, ap, ◌∙◌, arith}
use lib.Lanes.{zip2, sum_l, fold_l}
use Rattle.pi_guard.specs.Words.{of_halves}
use Rattle.pi_guard.proofs.Sums.{words}

abbrev pub wrapped_add : ℕ → ℕ → ℕ
wrapped_add a b = (a + b) % 4294967296

abbrev pub wrapped_sub : ℕ → ℕ → ℕ
wrapped_sub a b = (a + (4294967296 - b)) % 4294967296

abbrev pub shifted : ℕ → ℕ → ℕ
shifted u k = u * 2 ^ k % 4294967296

abbrev pub plus_lower : ℕ → ℕ → ℕ
plus_lower l n = l + n % 65536

abbrev pub plus_upper : ℕ → ℕ → ℕ
plus_upper u n = u + n / 65536

one_whole : (l u n : ℕ) → wrapped_add (of_halves l u) n ≡ of_halves (plus_lower l n) (plus_upper u n)
one_whole l u n = omega arith

-- what n numbers add to the sums
pub record Added (lower upper ns : List ℕ) : Type 0 where
  pub whole : zip2 wrapped_add (zip2 of_halves lower upper) ns ≡ zip2 of_halves (zip2 plus_lower lower ns) (zip2 plus_upper upper ns)
  pub upper_ones : zip2 wrapped_add upper (map (λ n. n / 65536) ns) ≡ zip2 plus_upper upper ns
  pub sum : sum_l (zip2 plus_lower lower ns) + sum_l (zip2 plus_upper upper ns) ≡ sum_l lower + sum_l upper + sum_l (map words ns)

pub added : (lower upper ns : List ℕ) → length lower ≡ length ns → length upper ≡ length ns → sum_l lower + sum_l upper + sum_l (map words ns) < 2 ^ 32 →
    Added lower upper ns
added [] [] [] l m h = record { whole = refl; upper_ones = refl; sum = refl }
added [] (u ∷ us) [] l m h = absurd (omega arith)
added [] us (n ∷ ns) l m h = absurd (omega arith)
added (x ∷ xs) us [] l m h = absurd (omega arith)
added (x ∷ xs) [] (n ∷ ns) l m h = absurd (omega arith)
added (x ∷ xs) (u ∷ us) (n ∷ ns) l m h =
    let r = added xs us ns (omega arith) (omega arith) (omega arith) in
    let w = one_whole x u n in
    let v : wrapped_add u (n / 65536) ≡ plus_upper u n = omega arith in
    let rw_whole = r.whole in
    let rw_upper = r.upper_ones in
    record { whole = cc; upper_ones = cc; sum = omega (arith, r.sum) }

-- the lower halves come back, and all is added up
pub told_apart : (lower upper : List ℕ) → length lower ≡ length upper → sum_l lower + sum_l upper < 2 ^ 32 →
    zip2 wrapped_add (zip2 wrapped_sub (zip2 of_halves lower upper) (map (λ u. shifted u 16) upper)) upper ≡ zip2 (λ l u. l + u) lower upper
told_apart [] [] l h = refl
told_apart [] (u ∷ us) l h = absurd (omega arith)
told_apart (x ∷ xs) [] l h = absurd (omega arith)
told_apart (x ∷ xs) (u ∷ us) l h =
    let r = told_apart xs us (omega arith) (omega arith) in
    let e : wrapped_add (wrapped_sub (of_halves x u) (shifted u 16)) u ≡ x + u = omega arith in
    cc

pub summed : (lower upper : List ℕ) (a : ℕ) → length lower ≡ length upper → a + (sum_l lower + sum_l upper) < 2 ^ 32 →
    fold_l wrapped_add a (zip2 (λ l u. l + u) lower upper) ≡ a + (sum_l lower + sum_l upper)
summed [] [] a l h = omega arith
summed [] (u ∷ us) a l h = absurd (omega arith)
summed (x ∷ xs) [] a l h = absurd (omega arith)
summed (x ∷ xs) (u ∷ us) a l h =
    let e : wrapped_add a (x + u) ≡ a + (x + u) = omega arith in
    ap (λ v. fold_l wrapped_add v (zip2 (λ l u. l + u) xs us)) e ∙ summed xs us (a + (x + u)) (omega arith) (omega arith) ∙ omega arith
