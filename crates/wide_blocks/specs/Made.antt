use Rattle.std.specs.Prelude.{ℕ, ◌+◌, ◌*◌, ◌%◌, ◌^◌, if◌then◌else◌, List}
use Rattle.pi_blocks.specs.Puts.{all_put}
use Rattle.wide_blocks.specs.declared.information.Information.{Information}
use Rattle.wide_blocks.specs.declared.layout.NvmeLayout.{NvmeLayout}
use Rattle.wide_blocks.specs.declared.making.NvmeTags.{NvmeTags}
use Rattle.wide_blocks.specs.Blocks.{WideBlock, apart, guard_of, in_line}
use Rattle.wide_blocks.specs.Information.{info_bytes}
use Rattle.wide_blocks.specs.Layouts.{covered_of, has_reference, info_at, reference_bits, stride_of}

-- the reference tag that is given to block i: one more a block, modulo its width, and 0 in type 3
abbrev pub own_reference : NvmeLayout → NvmeTags → ℕ → ℕ
own_reference l tags i = if has_reference l then (tags.first_ref + i) % 2 ^ reference_bits l else 0

-- the information that is made for block i
abbrev pub made_info : NvmeLayout → NvmeTags → (ℕ → WideBlock) → ℕ → Information
made_info l tags blocks i = record { guard = guard_of l (blocks i).guarded; app = tags.app; storage = tags.storage; reference = own_reference l tags i }

abbrev pub made_bytes : NvmeLayout → NvmeTags → (ℕ → WideBlock) → ℕ → List ℕ
made_bytes l tags blocks i = info_bytes l (made_info l tags blocks i)

-- where the information of block i begins, behind its data or in metadata alone
abbrev pub place_in_line : NvmeLayout → ℕ → ℕ
place_in_line l i = i * stride_of l + covered_of l

abbrev pub place_apart : NvmeLayout → ℕ → ℕ
place_apart l i = i * l.meta_size + info_at l

-- the bytes of n blocks with their information made
abbrev pub made_in_line : NvmeLayout → NvmeTags → ℕ → List ℕ → List ℕ
made_in_line l tags n bytes = all_put (place_in_line l) (made_bytes l tags (in_line l bytes)) n bytes

-- the metadata of n blocks with their information made
abbrev pub made_apart : NvmeLayout → NvmeTags → ℕ → List ℕ → List ℕ → List ℕ
made_apart l tags n body meta = all_put (place_apart l) (made_bytes l tags (apart l body meta)) n meta
