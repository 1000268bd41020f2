use Rattle.std.specs.Prelude.{ℕ, ◌%◌, ◌^◌, List, [], ◌∷◌, ◌++◌, slice_index}
use Rattle.std.specs.Int.{w16, w32, to_be_bytes, from_be_bytes}
use Rattle.pi_tuple.specs.declared.tuple.Tuple.{Tuple}

-- the bytes of a tuple: guard, application tag, reference tag, the most significant byte first (SBC-3, 4.22.3)
abbrev pub tuple_bytes : Tuple → List ℕ
tuple_bytes t = to_be_bytes w16 t.guard ++ (to_be_bytes w16 t.app ++ to_be_bytes w32 t.rtag)

-- the tuple that these eight bytes spell
abbrev pub tuple_in : List ℕ → Tuple
tuple_in b = record {
  guard = from_be_bytes w16 (slice_index b 0 ∷ slice_index b 1 ∷ []);
  app = from_be_bytes w16 (slice_index b 2 ∷ slice_index b 3 ∷ []);
  rtag = from_be_bytes w32 (slice_index b 4 ∷ slice_index b 5 ∷ slice_index b 6 ∷ slice_index b 7 ∷ []);
}

-- the reference tag that names an LBA: its low 32 bits
abbrev pub ref_tag : ℕ → ℕ
ref_tag lba = lba % 2 ^ 32
