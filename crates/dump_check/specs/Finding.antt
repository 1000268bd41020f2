use Rattle.std.specs.Prelude.{ℕ, ◌+◌, ◌-◌, ◌^◌, ◌%◌, Bool, eqb, if◌then◌else◌, List, take, drop, Option, Some, None}
use Rattle.std.specs.List.{list_all}
use Rattle.dump_check.specs.declared.finding.Judgement.{Judgement}
use Rattle.dump_check.specs.declared.finding.Judgement.TheVariants.{Nothing, Escape, Guard, AppTag, RefTag}
use Rattle.dump_check.specs.declared.form.Form.{Form}
use Rattle.dump_check.specs.declared.form.Form.TheVariants.{Narrow, Wide}
use Rattle.dump_check.specs.Forms.{bits_of, covered_of, guard_len, info_len, is_three, narrow_from, wide_from}
use Rattle.pi_blocks.specs.Blocks as narrow
use Rattle.pi_blocks.specs.declared.block.Found.{Found}
use Rattle.pi_blocks.specs.declared.block.Want.{Want}
use Rattle.pi_blocks.specs.declared.layout.Layout.{Layout}
use Rattle.wide_blocks.specs.Blocks as wide
use Rattle.wide_blocks.specs.Layouts.{reference_bits}
use Rattle.wide_blocks.specs.declared.block.NvmeFound.{NvmeFound}
use Rattle.wide_blocks.specs.declared.block.NvmeWant.{NvmeWant}
use Rattle.wide_blocks.specs.declared.layout.NvmeLayout.{NvmeLayout}

-- What is found of a block of a dump, by its bytes.

-- its protection information
abbrev pub info_of : Form → List ℕ → List ℕ
info_of f block = take (info_len f) (drop (covered_of f) block)

abbrev pub is_ones : ℕ → Bool
is_ones b = eqb b 0xFF

abbrev pub are_ones : List ℕ → Bool
are_ones bytes = list_all is_ones bytes

-- the application tag, in type 3 with all that stands behind
abbrev pub tags_of : Form → List ℕ → List ℕ
tags_of f block = if is_three f then drop (guard_len f) (info_of f block) else take 2 (drop (guard_len f) (info_of f block))

-- They say that the block isn't to be checked.
abbrev pub is_escape : Form → List ℕ → Bool
is_escape f block = are_ones (tags_of f block)

-- how much higher a tag of so many bits is than the one wanted, modulo its width
abbrev pub distance : (bits expected actual : ℕ) → ℕ
distance bits expected actual = (actual + 2 ^ 64 - expected) % 2 ^ bits

-- the difference that the check of this flag finds
abbrev pub by_check : (check shift : ℕ) → Judgement
by_check check shift = if eqb check 2 then Guard else (if eqb check 4 then AppTag else RefTag shift)

abbrev pub by_found : Option Found → Judgement
by_found None = Nothing
by_found (Some f) = by_check f.check (distance 32 f.expected f.actual)

abbrev pub by_wide_found : (bits : ℕ) → Option NvmeFound → Judgement
by_wide_found bits None = Nothing
by_wide_found bits (Some f) = by_check f.check (distance bits f.expected f.actual)

-- what block i is found to differ in, as the first of blocks from there on
abbrev pub narrow_found : Layout → Want → ℕ → List ℕ → Judgement
narrow_found l w i block = by_found (narrow.looked l (narrow_from w i) (narrow.in_line l block) 0)

abbrev pub wide_found : NvmeLayout → NvmeWant → ℕ → List ℕ → Judgement
wide_found l w i block = by_wide_found (reference_bits l) (wide.looked l (wide_from w i) (wide.in_line l block) 0)

abbrev pub differing : Form → ℕ → List ℕ → Judgement
differing (Narrow l w) i block = narrow_found l w i block
differing (Wide l w) i block = wide_found l w i block

-- what is found of block i
abbrev pub found_of : Form → ℕ → List ℕ → Judgement
found_of f i block = if is_escape f block then Escape else differing f i block
