-- How many pairs of groups may be joined, as a queue keeps it.
use Rattle.std.specs.Prelude.{◌≡◌, ◌<◌, ◌≤◌, ℕ, ◌+◌, false, List, length, get_or}
use Rattle.std.specs.List.{filter}
use Rattle.merge_queue.specs.declared.limits.Limits.{Limits}
use Rattle.merge_queue.specs.Groups.{Group, size, may_join, numbers, followers, pairs}

-- the groups behind which group i may be joined
abbrev pub leaders : Limits → List Group → ℕ → List ℕ
leaders lim q i = filter (λ j. may_join lim q j i) (numbers 0 (length q))

-- of how many pairs that may be joined group i is one
abbrev pub links : Limits → List Group → ℕ → ℕ
links lim q i = length (followers lim q i) + length (leaders lim q i)

-- no group has more blocks than so many
abbrev pub AreWithin : ℕ → List Group → Type 0
AreWithin most q = (k : ℕ) (d : Group) → k < length q → size (get_or q k d) ≤ most

-- behind no group before this place may another be joined
abbrev pub NoneJoins : Limits → List Group → ℕ → Type 0
NoneJoins lim q first = (i j : ℕ) → i < first → i < length q → j < length q → may_join lim q i j ≡ false

-- what is kept of the groups: how many pairs may be joined, and a bound on their blocks
pub record Counted (q : List Group) (lim : Limits) (kept longest : ℕ) : Type 0 where
  pub count : kept ≡ length (pairs lim q)
  pub within : AreWithin longest q
