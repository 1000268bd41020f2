use Rattle.std.specs.Prelude.{ℕ, suc, ◌≡◌, ◌<◌, Bool, true, List, [], ◌∷◌, length}
use Rattle.block_path.specs.Passed.{stored_size}
use Rattle.block_path.specs.Blocks.{stored_cell}
use Rattle.run_laws.specs.Passed.{Setting, block_of, route, Op, Fetch, FetchPi, Fill, Overwrite, Put, Seal, Show, Wait, Write, WritePi}

-- Whatever has the size of a stored block is fine where a block of the request is stored.
abbrev pub TakesAny : Setting → (fine : ℕ → List ℕ → Bool) → (i v n : ℕ) → Type 0
TakesAny m fine i v n = (k : ℕ) → k < n → (left : List ℕ) → length left ≡ stored_size m.ty m.size → fine (stored_cell m.site (route m (block_of i v k))) left ≡ true

abbrev pub OpTakesAny : Setting → (fine : ℕ → List ℕ → Bool) → (i : ℕ) → Op → Type 0
OpTakesAny m fine i (Fill seg byte) = Unit {0}
OpTakesAny m fine i (Put page off bytes) = Unit {0}
OpTakesAny m fine i (Show seg) = Unit {0}
OpTakesAny m fine i (Seal n body tuples app rtag) = Unit {0}
OpTakesAny m fine i (Write v n body app) = TakesAny m fine i v n
OpTakesAny m fine i (Fetch v n body) = TakesAny m fine i v n
OpTakesAny m fine i (WritePi v n body tuples) = TakesAny m fine i v n
OpTakesAny m fine i (FetchPi v n body tuples) = TakesAny m fine i v n
OpTakesAny m fine i (Overwrite dev lba change) = Unit {0}
OpTakesAny m fine i Wait = Unit {0}

-- the ops from op i on
abbrev pub AllTakeAny : Setting → (fine : ℕ → List ℕ → Bool) → (i : ℕ) → List Op → Type 0
AllTakeAny m fine i [] = Unit {0}
AllTakeAny m fine i (op ∷ ops) = OpTakesAny m fine i op × AllTakeAny m fine (suc i) ops
