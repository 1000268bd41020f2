use Rattle.std.specs.Prelude.{ℕ, ◌+◌, ◌*◌, List}
use Rattle.pi_tuple.specs.declared.tuple.Tuple.{Tuple}
use Rattle.pi_tuple.specs.Finds.{own_tag}
use Rattle.pi_tuple.specs.Tuples.{tuple_bytes}
use Rattle.pi_blocks.specs.declared.layout.Layout.{Layout}
use Rattle.pi_blocks.specs.Blocks.{Block, apart, guard_in, in_line}
use Rattle.pi_blocks.specs.Layouts.{covered_of, stride_of, type_of}
use Rattle.pi_blocks.specs.Puts.{all_put}

-- the tuple that is made for block i: the guard of its bytes, the application tag, and in types 1 and 2 its reference tag
abbrev pub made_tuple : Layout → ℕ → ℕ → (ℕ → Block) → ℕ → Tuple
made_tuple l app first blocks i = record { guard = guard_in l (blocks i); app = app; rtag = own_tag (type_of l.pi_type) (first + i) }

abbrev pub made_bytes : Layout → ℕ → ℕ → (ℕ → Block) → ℕ → List ℕ
made_bytes l app first blocks i = tuple_bytes (made_tuple l app first blocks i)

-- where the tuple of block i begins, behind its data or in metadata alone
abbrev pub place_in_line : Layout → ℕ → ℕ
place_in_line l i = i * stride_of l + covered_of l

abbrev pub place_apart : Layout → ℕ → ℕ
place_apart l i = i * l.meta_size + l.tuple_at

-- the bytes of n blocks with their tuples made
abbrev pub made_in_line : Layout → ℕ → ℕ → ℕ → List ℕ → List ℕ
made_in_line l app first n bytes = all_put (place_in_line l) (made_bytes l app first (in_line l bytes)) n bytes

-- the metadata of n blocks with their tuples made
abbrev pub made_apart : Layout → ℕ → ℕ → ℕ → List ℕ → List ℕ → List ℕ
made_apart l app first n body meta = all_put (place_apart l) (made_bytes l app first (apart l body meta)) n meta
