use Rattle.std.specs.Prelude.{ℕ, suc, List, [], ◌∷◌, Option, Some, None}
use Rattle.dix_adapter.specs.Passed.{Flip}
use Rattle.run_laws.specs.Passed.{Op, Fetch, FetchPi, Fill, Overwrite, Put, Seal, Show, Wait, Write, WritePi}

-- Overwrites whose store call fails, as ops: such a one leaves in its own block what it may, of the block's size. So it flips some bits of it.

-- which ops flip their block so, by their number, and by which bytes
abbrev pub Flips : Type 0
Flips = ℕ → Option (List ℕ)

abbrev pub no_flips : Flips
no_flips i = None

-- an overwrite, or the flip of its block that stands for it
abbrev pub flip_op : Option (List ℕ) → Op → Op
flip_op None op = op
flip_op (Some mask) (Fill seg byte) = Fill seg byte
flip_op (Some mask) (Put page off bytes) = Put page off bytes
flip_op (Some mask) (Show seg) = Show seg
flip_op (Some mask) (Seal n body tuples app rtag) = Seal n body tuples app rtag
flip_op (Some mask) (Write v n body app) = Write v n body app
flip_op (Some mask) (Fetch v n body) = Fetch v n body
flip_op (Some mask) (WritePi v n body tuples) = WritePi v n body tuples
flip_op (Some mask) (FetchPi v n body tuples) = FetchPi v n body tuples
flip_op (Some mask) (Overwrite dev lba change) = Overwrite dev lba (Flip 0 mask)
flip_op (Some mask) Wait = Wait

-- the ops from op i on, of which these flip
abbrev pub with_flips : Flips → (i : ℕ) → List Op → List Op
with_flips flips i [] = []
with_flips flips i (op ∷ ops) = flip_op (flips i) op ∷ with_flips flips (suc i) ops
