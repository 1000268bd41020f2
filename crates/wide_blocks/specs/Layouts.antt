use Rattle.std.specs.Prelude.{◌≡◌, ℕ, ◌+◌, ◌-◌, ◌^◌, ◌%◌, Bool, true, false, not, ◌&&◌, ◌||◌, eqb, leb, ltb, if◌then◌else◌}
use Rattle.wide_blocks.specs.declared.layout.NvmeLayout.{NvmeLayout}
use Rattle.wide_blocks.specs.declared.layout.NvmeRefusal.{NvmeRefusal}
use Rattle.wide_blocks.specs.declared.layout.NvmeRefusal.TheVariants.{Field, Layout, Length}

-- the bytes of a block with its metadata behind its data, those of its metadata before the information, and all before it
abbrev pub stride_of : NvmeLayout → ℕ
stride_of l = l.data_size + l.meta_size

abbrev pub info_at : NvmeLayout → ℕ
info_at l = if eqb l.at_end 0 then 0 else l.meta_size - 16

abbrev pub covered_of : NvmeLayout → ℕ
covered_of l = l.data_size + info_at l

-- beside guard and application tag 112 - 32 or 112 - 64 bits are left: the storage tag has the upper ones, and the reference tag the others
abbrev pub reference_bits : NvmeLayout → ℕ
reference_bits l = 112 - l.guard - l.storage

-- the sizes of a storage tag that the format allows beside this guard
abbrev pub are_widths : ℕ → ℕ → Bool
are_widths guard storage = (eqb guard 32 && (leb 16 storage && leb storage 64)) || (eqb guard 64 && leb storage 48)

-- the information fits its metadata, a block's size fits 32 bits, and each number has a meaning
abbrev pub is_good : NvmeLayout → Bool
is_good l = leb 16 l.meta_size && (ltb (stride_of l) (2 ^ 32) && (leb l.at_end 1 && (leb 1 l.pi_type && (leb l.pi_type 3 && are_widths l.guard l.storage))))

-- types 1 and 2: the reference tag counts up with the blocks
abbrev pub has_reference : NvmeLayout → Bool
has_reference l = not (eqb l.pi_type 3)

-- the layout is good, and so many bytes are whole blocks of it
pub record AreWideBlocks (l : NvmeLayout) (len : ℕ) : Type 0 where
  pub good : is_good l ≡ true
  pub even : len % stride_of l ≡ 0

-- why so many bytes are none: each refusal by its cause, the layout's first
abbrev pub Refused : NvmeLayout → ℕ → NvmeRefusal → Type 0
Refused l len Layout = is_good l ≡ false
Refused l len Length = (is_good l ≡ true) × ¬ (len % stride_of l ≡ 0)
Refused l len Field = ⊥

-- flags that say what is checked: 2 the guard, 4 the application tag, 8 the reference tag, 16 the storage tag, one of them at least and no
-- other; or 1 alone, nothing
abbrev pub are_flags : ℕ → Bool
are_flags n = eqb n 1 || (leb 2 n && (ltb n 32 && eqb (n % 2) 0))

-- why nothing was done with bytes that may be blocks: for what they are, or, where they are some, for a field that isn't fine
abbrev pub NotDone : (Are : Type 0) → (None : NvmeRefusal → Type 0) → (fine : Bool) → NvmeRefusal → Type 0
NotDone Are None fine Layout = None Layout
NotDone Are None fine Length = None Length
NotDone Are None fine Field = Are × (fine ≡ false)

-- a storage tag has no more bits than the layout's
abbrev pub fits_storage : NvmeLayout → ℕ → Bool
fits_storage l tag = ltb tag (2 ^ l.storage)
