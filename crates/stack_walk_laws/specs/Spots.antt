-- The blocks of a script by the number of their op and their place in it.
use Rattle.std.specs.Prelude.{ℕ, zero, suc, List, [], ◌∷◌, get_or, take, drop}
use Rattle.run_laws.specs.Passed.{Setting, Alters, Reads, Seals, Sets, Shows, Step, Writes, WritesPi, steps_of, Op, Wait}
use Rattle.stack_walk_laws.specs.Gate.{BlockSpot}

abbrev pub op_in : List Op → ℕ → Op
op_in ops i = get_or ops i Wait

abbrev pub no_step : Step
no_step = Sets [] []

-- the steps of the op of this number, from 0
abbrev pub steps_in : Setting → List Op → ℕ → List Step
steps_in m ops i = steps_of m (suc i) (op_in ops i)

-- its step at place k
abbrev pub step_in : Setting → List Op → (i k : ℕ) → Step
step_in m ops i k = get_or (steps_in m ops i) k no_step

abbrev pub spot_at : Setting → List Op → (i k : ℕ) → BlockSpot
spot_at m ops i k = record { front = take i ops; op = op_in ops i; behind = drop (suc i) ops; before = take k (steps_in m ops i); step = step_in m ops i k; after = drop (suc k) (steps_in m ops i) }

-- n blocks of op i, from block k on
abbrev pub spots_from : Setting → List Op → (i k n : ℕ) → List BlockSpot
spots_from m ops i k zero = []
spots_from m ops i k (suc n) = spot_at m ops i k ∷ spots_from m ops i (suc k) n

-- a block of a read
abbrev pub IsRead : Step → Type 0
IsRead (Sets at values) = ⊥
IsRead (Shows at) = ⊥
IsRead (Seals body tuple app rtag) = ⊥
IsRead (Writes b app body) = ⊥
IsRead (WritesPi b frame) = ⊥
IsRead (Reads b owner to) = Unit {0}
IsRead (Alters dev lba change) = ⊥
