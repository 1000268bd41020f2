use Rattle.std.specs.Prelude.{ℕ, ◌+◌, Bool, true, false, List, [], ◌∷◌, ◌++◌, drop}
use Rattle.pi_tuple.specs.declared.checks.PiType.{PiType}
use Rattle.pi_tuple.specs.declared.checks.PiType.TheVariants.{Zero, One, Two, Three}
use Rattle.rig_api.specs.Frames.{data_of, stored_size}
use Rattle.rig_api.specs.Passing.{with_own_tuple}
use Rattle.image_text.specs.declared.layout.Layout.{Layout}
use Rattle.image_text.specs.declared.layout.Layout.TheVariants.{Interleaved, Plain, Tuples}
use Rattle.pi_tuple.specs.declared.TheConstants.{TUPLE}

-- Dumps of blocks: a piece for each, one after another.

-- A unit of this type has what the layout holds.
abbrev pub fits : Layout → PiType → Bool
fits Interleaved ty = true
fits Plain ty = true
fits Tuples Zero = false
fits Tuples One = true
fits Tuples Two = true
fits Tuples Three = true

-- the bytes of a block's piece
abbrev pub piece_len : Layout → PiType → (size : ℕ) → ℕ
piece_len Interleaved ty size = stored_size ty size
piece_len Plain ty size = size
piece_len Tuples ty size = TUPLE

-- the piece of a stored block: all of it, its data, or what stands behind them
abbrev pub piece_of : Layout → (size : ℕ) → List ℕ → List ℕ
piece_of Interleaved size block = block
piece_of Plain size block = data_of size block
piece_of Tuples size block = drop size block

-- the dump of stored blocks
abbrev pub dump_of : Layout → (size : ℕ) → List (List ℕ) → List ℕ
dump_of layout size [] = []
dump_of layout size (block ∷ blocks) = piece_of layout size block ++ dump_of layout size blocks

-- what is stored of a piece: the piece, the piece under a tuple of its own, or the block's own data under the piece
abbrev pub imported_block : Layout → PiType → (size lba : ℕ) → (block piece : List ℕ) → List ℕ
imported_block Interleaved ty size lba block piece = piece
imported_block Plain ty size lba block piece = with_own_tuple ty lba piece
imported_block Tuples ty size lba block piece = data_of size block ++ piece

-- what is stored of pieces, in the place of these blocks, the first of which has this address
abbrev pub imported : Layout → PiType → (size lba : ℕ) → (blocks pieces : List (List ℕ)) → List (List ℕ)
imported layout ty size lba [] pieces = []
imported layout ty size lba (block ∷ blocks) [] = []
imported layout ty size lba (block ∷ blocks) (piece ∷ pieces) = imported_block layout ty size lba block piece ∷ imported layout ty size (lba + 1) blocks pieces
