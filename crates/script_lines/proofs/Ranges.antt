-- A number that is in range isn't below it.
use Rattle.std.proofs.Common.{ℕ, ◌≡◌, ◌≤◌, Bool, true, false, ◌&&◌, leb, cond, refl, Option, Some, None, arith}
use Rattle.std.proofs.lemmas.Bool.Decides.{nat_tests}
use Rattle.script_words.specs.Numbers.{in_range}

by_test : (a b : Bool) (low n m : ℕ) → leb low m ≡ a → Some n ≡ cond (a && b) (Some m) None → low ≤ n
by_test true true low n m h e = let same : n ≡ m = cc in grind (arith, nat_tests, same, h)
by_test true false low n m h e = absurd (cc)
by_test false b low n m h e = absurd (cc)

-- a number in a range isn't below it
pub not_below : (low high n : ℕ) (o : Option ℕ) → Some n ≡ in_range low high o → low ≤ n
not_below low high n None e = absurd (cc)
not_below low high n (Some m) e = by_test (leb low m) (leb m high) low n m refl e
