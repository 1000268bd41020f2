-- A read gives the front of what stands behind a place, as far as both reach.
use Rattle.std.proofs.Common.{ℕ, ◌≡◌, ◌+◌, ◌-◌, ◌≤◌, List, ◌++◌, length, take, drop, arith, rules}
use Rattle.std.proofs.lemmas.List.{places, same_lists}

-- what was copied to the front of a buffer, and what is left after it
pub cut-joined : (n at : ℕ) (held buf : List ℕ) → n ≤ length held - at → n ≤ length buf → drop at held ≡ take n (take n (drop at held) ++ drop n buf) ++ drop (at + n) held
cut-joined n at held buf h k = same_lists _ _ (search (rules, places)) (λ i e l. grind (arith, places))

-- the part of a list from a place on
pub take-rest : (at : ℕ) (xs : List ℕ) → take (length xs - at) (drop at xs) ≡ drop at xs
take-rest at xs = same_lists _ _ (search (rules, places)) (λ i e l. grind (arith, places))
