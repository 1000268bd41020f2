use Rattle.std.specs.Prelude.{ℕ, zero, suc, ◌+◌, eqb, if◌then◌else◌, List, [], ◌∷◌, ◌++◌, length, take, drop}
use Rattle.pi_tuple.specs.Tuples.{tuple_bytes, tuple_in}
use Rattle.pi_tuple.specs.declared.tuple.Tuple.{Tuple}
use Rattle.pi_tuple.specs.declared.checks.PiType.{PiType}
use Rattle.pi_tuple.specs.declared.checks.PiType.TheVariants.{Zero, One, Two, Three}
use Rattle.pi_tuple.specs.declared.TheConstants.{TUPLE}

-- A frame is a block's bytes of data, followed by the eight bytes of its tuple where a tuple travels.
abbrev pub data_of : (size : ℕ) → List ℕ → List ℕ
data_of size f = take size f

abbrev pub tuple_of : (size : ℕ) → List ℕ → Tuple
tuple_of size f = tuple_in (drop size f)

abbrev pub frame_of : List ℕ → Tuple → List ℕ
frame_of bytes t = bytes ++ tuple_bytes t

-- the bytes of a block on the medium: a unit of type 0 has data alone
abbrev pub stored_size : PiType → (size : ℕ) → ℕ
stored_size Zero size = size
stored_size One size = size + TUPLE
stored_size Two size = size + TUPLE
stored_size Three size = size + TUPLE

-- the bytes of a block between host and target: under protect field 000b the data alone
abbrev pub sent_size : (protect : ℕ) → (size : ℕ) → ℕ
sent_size protect size = if eqb protect 0 then size else size + TUPLE

-- so many frames of this length, one after another
abbrev pub frames_of : (length_of_each : ℕ) → ℕ → List ℕ → List (List ℕ)
frames_of len zero bytes = []
frames_of len (suc n) bytes = take len bytes ∷ frames_of len n (drop len bytes)

-- the frames one after another
abbrev pub joined : List (List ℕ) → List ℕ
joined [] = []
joined (f ∷ fs) = f ++ joined fs

-- the blocks with these frames in place of those from this index on
abbrev pub placed : ℕ → List (List ℕ) → List (List ℕ) → List (List ℕ)
placed at fs blocks = take at blocks ++ (fs ++ drop (at + length fs) blocks)
