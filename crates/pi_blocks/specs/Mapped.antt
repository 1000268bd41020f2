use Rattle.std.specs.Prelude.{ℕ, ◌+◌, ◌*◌, eqb, if◌then◌else◌, List, take, drop}
use Rattle.std.specs.Int.{w32, from_be_bytes, to_be_bytes}
use Rattle.pi_tuple.specs.Tuples.{ref_tag}
use Rattle.pi_blocks.specs.declared.layout.Layout.{Layout}
use Rattle.pi_blocks.specs.Layouts.{covered_of, stride_of, type_of}
use Rattle.pi_blocks.specs.Puts.{all_put}
use Rattle.ref_remap.specs.Remapped.{remapped_tag}

-- where the reference tag of block i begins, and the tag
abbrev pub tag_place : Layout → ℕ → ℕ
tag_place l i = i * stride_of l + (covered_of l + 4)

abbrev pub tag_in : Layout → List ℕ → ℕ → List ℕ
tag_in l bytes i = take 4 (drop (tag_place l i) bytes)

-- the tag of block i mapped from `from` and its number to `to` and its number
abbrev pub mapped_tag : Layout → ℕ → ℕ → List ℕ → ℕ → List ℕ
mapped_tag l from to bytes i = remapped_tag (type_of l.pi_type) (from + i) (to + i) (tag_in l bytes i)

-- the bytes of n blocks with their tags mapped
abbrev pub all_mapped : Layout → ℕ → ℕ → ℕ → List ℕ → List ℕ
all_mapped l from to n bytes = all_put (tag_place l) (mapped_tag l from to bytes) n bytes

-- a tag of the one address becomes that of the other
abbrev pub exchanged : ℕ → ℕ → List ℕ → List ℕ
exchanged from to tag = if eqb (from_be_bytes w32 tag) (ref_tag from) then to_be_bytes w32 (ref_tag to) else tag
