-- What is written over a place leaves all bytes beside it.
use Rattle.std.proofs.Common.{ℕ, ◌+◌, ◌≤◌, List, length, arith, rules}
use Rattle.std.proofs.lemmas.List.{places, same_lists}
use Rattle.dix_base.specs.Told.{over, Apart}

-- a write leaves all bytes apart from its place
pub over-apart : (at n : ℕ) (xs old : List ℕ) → length xs ≤ n → at + n ≤ length old → Apart at n old (over at xs old)
over-apart at n xs old h k = (
  search (rules, places),
  same_lists _ _ (search (rules, places)) (λ i e l. grind (arith, places)),
  same_lists _ _ (search (rules, places)) (λ i e l. grind (arith, places)),
)
