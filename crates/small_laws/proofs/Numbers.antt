-- Laws of numbers that the standard library lacks.
use Rattle.std.proofs.Common.{ℕ, ◌+◌, ◌≡◌, suc, arith, ◌*◌, ap, add-one, ◌∙◌, ◌≤◌, ◌⊎◌, ◌%◌, inl, inr, ◌<◌, get_or, ◌∷◌, [], zero, lit<}
use Rattle.std.proofs.Math.Nat.{suc-mul, mul-le-mul_left, mul_comm}

pub one_more : (n : ℕ) → 1 + n ≡ suc n
one_more n = omega arith

-- block i ends where the next one begins
pub next_block : (i size : ℕ) → (i + 1) * size ≡ i * size + size
next_block i size = ap (λ (m : ℕ). m * size) (add-one i) ∙ suc-mul i size

-- so many blocks from one on lie inside all of them
pub within_all : (k n m len : ℕ) → k + n ≤ m → k * len + n * len ≤ m * len
within_all k n m len h = let a : len * (k + n) ≤ len * m = mul-le-mul_left len h in let b = mul_comm len (k + n) in let c = mul_comm len m in omega arith

pub even_size : (n : ℕ) → (n ≡ 512) ⊎ (n ≡ 4096) → n % 2 ≡ 0
even_size n (inl e) = omega arith
even_size n (inr e) = omega arith

pub two_bytes : (h l : ℕ) → h < 256 → l < 256 → (i : ℕ) → get_or (h ∷ l ∷ []) i 0 < 256
two_bytes h l p q zero = p
two_bytes h l p q (suc zero) = q
two_bytes h l p q (suc (suc i)) = lit< tt
