-- Single blocks of requests, and how often one stands in a list.
use Rattle.std.specs.Prelude.{ℕ, zero, suc, ◌+◌, Bool, true, false, ◌&&◌, eqb, if◌then◌else◌, List, [], ◌∷◌, ◌++◌}
use Rattle.merge_queue.specs.Passed.{Bio, Fate, Good, Bad, Untouched}
use Rattle.merge_queue.specs.Index.{total}

-- block k of op i
pub record BlockId : Type 0 where
  pub op : ℕ
  pub k : ℕ

-- n blocks of op i, from k on
abbrev pub run_of : ℕ → ℕ → ℕ → List BlockId
run_of i k zero = []
run_of i k (suc n) = record { op = i; k = k } ∷ run_of i (suc k) n

-- ops are numbered from 1, their places are counted from 0
abbrev pub place_of : ℕ → ℕ
place_of zero = zero
place_of (suc i) = i

abbrev pub blocks : List Bio → List BlockId
blocks [] = []
blocks (b ∷ bs) = run_of (place_of b.op) b.k b.count ++ blocks bs

-- 1 for block k of op i
abbrev pub is_block : ℕ → ℕ → BlockId → ℕ
is_block i k b = if eqb b.op i && eqb b.k k then 1 else 0

-- how often block k of op i stands in the list
abbrev pub times : ℕ → ℕ → List BlockId → ℕ
times i k bs = total (is_block i k) bs

abbrev pub is_settled : Fate → Bool
is_settled Good = true
is_settled (Bad why) = true
is_settled Untouched = false

-- the blocks whose fate is settled
abbrev pub settled_of : List BlockId → List Fate → List BlockId
settled_of [] fs = []
settled_of (b ∷ bs) [] = []
settled_of (b ∷ bs) (f ∷ fs) = if is_settled f then b ∷ settled_of bs fs else settled_of bs fs

-- how many fates are settled
abbrev pub settled_count : List Fate → ℕ
settled_count [] = 0
settled_count (f ∷ fs) = (if is_settled f then 1 else 0) + settled_count fs
