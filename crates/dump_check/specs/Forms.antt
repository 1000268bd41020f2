use Rattle.std.specs.Prelude.{ℕ, ◌+◌, ◌-◌, ◌^◌, ◌%◌, Bool, not, eqb, leb, ltb, ◌&&◌, ◌||◌, if◌then◌else◌, bit_and}
use Rattle.dump_check.specs.declared.form.Form.{Form}
use Rattle.dump_check.specs.declared.form.Form.TheVariants.{Narrow, Wide}
use Rattle.pi_blocks.specs.declared.block.Want.{Want}
use Rattle.pi_blocks.specs.Layouts as narrow
use Rattle.wide_blocks.specs.declared.block.NvmeWant.{NvmeWant}
use Rattle.wide_blocks.specs.Layouts as wide

-- How the blocks of a dump are laid, and what is wanted of them.

-- flags below an end that name checks and nothing else, or say that nothing is checked
abbrev pub are_flags : (end : ℕ) → ℕ → Bool
are_flags end n = eqb n 1 || (leb 2 n && (ltb n end && eqb (n % 2) 0))

-- each number of the layout and the flags have a meaning
abbrev pub is_fit : Form → Bool
is_fit (Narrow l w) = narrow.is_good l && are_flags 16 w.checks
is_fit (Wide l w) = wide.is_good l && are_flags 32 w.checks

-- the bytes of a block with its metadata, those before its protection information, and those of that
abbrev pub stride_of : Form → ℕ
stride_of (Narrow l w) = narrow.stride_of l
stride_of (Wide l w) = wide.stride_of l

abbrev pub covered_of : Form → ℕ
covered_of (Narrow l w) = narrow.covered_of l
covered_of (Wide l w) = wide.covered_of l

abbrev pub info_len : Form → ℕ
info_len (Narrow l w) = 8
info_len (Wide l w) = 16

-- the bytes of the guard, at the front of it; the application tag has the next two, and the rest are the reference tag's, and a storage tag's before it
abbrev pub guard_len : Form → ℕ
guard_len (Narrow l w) = 2
guard_len (Wide l w) = if eqb l.guard 32 then 4 else 8

abbrev pub is_three : Form → Bool
is_three (Narrow l w) = eqb l.pi_type 3
is_three (Wide l w) = eqb l.pi_type 3

-- reference tags are checked
abbrev pub has_tag : Form → Bool
has_tag (Narrow l w) = not (eqb (bit_and w.checks 8) 0) && not (eqb l.pi_type 3)
has_tag (Wide l w) = not (eqb (bit_and w.checks 8) 0) && not (eqb l.pi_type 3)

-- the bits of a reference tag, and that of the first block
abbrev pub bits_of : Form → ℕ
bits_of (Narrow l w) = 32
bits_of (Wide l w) = wide.reference_bits l

abbrev pub first_tag : Form → ℕ
first_tag (Narrow l w) = w.first_ref
first_tag (Wide l w) = w.first_ref

-- what is wanted from block i on: the reference tag is i more
abbrev pub narrow_from : Want → ℕ → Want
narrow_from w i = record { first_ref = (w.first_ref + i) % 2 ^ 32; app = w.app; mask = w.mask; checks = w.checks }

abbrev pub wide_from : NvmeWant → ℕ → NvmeWant
wide_from w i = record { first_ref = (w.first_ref + i) % 2 ^ 64; storage = w.storage; storage_mask = w.storage_mask; app = w.app; mask = w.mask; checks = w.checks }
