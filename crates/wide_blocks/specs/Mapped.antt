use Rattle.std.specs.Prelude.{ℕ, ◌+◌, ◌%◌, ◌^◌, eqb, if◌then◌else◌, List, take, drop}
use Rattle.pi_blocks.specs.Puts.{all_put}
use Rattle.wide_blocks.specs.declared.information.Information.{Information}
use Rattle.wide_blocks.specs.declared.layout.NvmeLayout.{NvmeLayout}
use Rattle.wide_blocks.specs.Information.{info_bytes, info_in}
use Rattle.wide_blocks.specs.Layouts.{reference_bits}
use Rattle.wide_blocks.specs.Made.{place_in_line}

abbrev pub with_reference : Information → ℕ → Information
with_reference t reference = record { guard = t.guard; app = t.app; storage = t.storage; reference = reference }

-- sixteen bytes whose reference tag is that of one address get that of the other, and others stay
abbrev pub exchanged : NvmeLayout → ℕ → ℕ → List ℕ → List ℕ
exchanged l from to info =
    if eqb (info_in l info).reference (from % 2 ^ reference_bits l) then info_bytes l (with_reference (info_in l info) (to % 2 ^ reference_bits l)) else info

-- the information of block i mapped from `from` and its number to `to` and its number
abbrev pub mapped_info : NvmeLayout → ℕ → ℕ → List ℕ → ℕ → List ℕ
mapped_info l from to bytes i = exchanged l (from + i) (to + i) (take 16 (drop (place_in_line l i) bytes))

-- the bytes of n blocks with their reference tags mapped
abbrev pub all_mapped : NvmeLayout → ℕ → ℕ → ℕ → List ℕ → List ℕ
all_mapped l from to n bytes = all_put (place_in_line l) (mapped_info l from to bytes) n bytes
