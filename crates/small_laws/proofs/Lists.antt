-- Laws of lists that the standard library lacks.
use Rattle.std.proofs.Common.{ℕ, ◌+◌, ◌≡◌, List, length, drop, arith}
use Rattle.std.proofs.lemmas.List.{length-drop}

pub behind_long : (n k : ℕ) (xs : List ℕ) → length xs ≡ n + k → length (drop n xs) ≡ k
behind_long n k xs l = let d = length-drop n xs in omega (arith, d, l)
