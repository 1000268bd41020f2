use Rattle.std.specs.Prelude.{ℕ, ◌+◌, ◌-◌, ◌*◌, ◌^◌, ◌%◌, ◌/◌, Bool, true, false, not, eqb, leb, ltb, ◌&&◌, if◌then◌else◌, List, [], ◌∷◌, ◌++◌, length, take, drop, codes, decimal}
use Rattle.std.specs.Int.{w16, w32, w64, to_be_bytes}
use Rattle.hex.specs.Hex.{encode_lower}
use Rattle.rig_api.specs.Frames.{frames_of}
use Rattle.dump_check.specs.declared.finding.Judgement.{Judgement}
use Rattle.dump_check.specs.declared.finding.Judgement.TheVariants.{Nothing, Escape, Guard, AppTag, RefTag}
use Rattle.dump_check.specs.declared.form.Dump.{Dump}
use Rattle.dump_check.specs.declared.form.Form.{Form}
use Rattle.dump_check.specs.declared.form.Form.TheVariants.{Narrow, Wide}
use Rattle.dump_check.specs.declared.tally.DumpTally.{DumpTally}
use Rattle.dump_check.specs.Finding.{found_of, info_of}
use Rattle.dump_check.specs.Forms.{bits_of, covered_of, first_tag, guard_len, has_tag, narrow_from, stride_of, wide_from}
use Rattle.dump_check.specs.Tallies.{counted, counted_all, none_counted}
use Rattle.pi_blocks.specs.Blocks as narrow
use Rattle.wide_blocks.specs.Blocks as wide
use Rattle.wide_guard.specs.Reflected.{crc32c, crc64}

-- What is written of a dump.

abbrev pub is_bad : Judgement → Bool
is_bad Nothing = false
is_bad Escape = false
is_bad Guard = true
is_bad AppTag = true
is_bad (RefTag shift) = true

abbrev pub name_of : Judgement → List ℕ
name_of Nothing = codes "ok"
name_of Escape = codes "escape"
name_of Guard = codes "guard"
name_of AppTag = codes "apptag"
name_of (RefTag shift) = codes "ref"

-- GUARD APP REF: the protection information of a block
abbrev pub have_text : Form → List ℕ → List ℕ
have_text f b =
    encode_lower (take (guard_len f) (info_of f b)) ++ (codes " " ++ (encode_lower (take 2 (drop (guard_len f) (info_of f b))) ++ (codes " " ++ encode_lower (drop 2 (drop (guard_len f) (info_of f b))))))

-- the guard of its bytes
abbrev pub guard_text : Form → List ℕ → List ℕ
guard_text (Narrow l w) b = encode_lower (to_be_bytes w16 (narrow.guard_in l (narrow.in_line l b 0)))
guard_text (Wide l w) b = if eqb l.guard 32 then encode_lower (to_be_bytes w32 (crc32c (take (covered_of (Wide l w)) b))) else encode_lower (to_be_bytes w64 (crc64 (take (covered_of (Wide l w)) b)))

abbrev pub tag_digits : Form → ℕ → List ℕ
tag_digits (Narrow l w) i = encode_lower (to_be_bytes w32 (narrow_from w i).first_ref)
tag_digits (Wide l w) i = encode_lower (to_be_bytes w64 (wide.ref_of l (wide_from w i) 0))

-- the reference tag that is wanted of block i, where tags are checked
abbrev pub tag_text : Form → ℕ → List ℕ
tag_text f i = if has_tag f then tag_digits f i else codes "-"

-- 0 LBA have GUARD APP REF want GUARD REF VERDICT
abbrev pub bad_line : Dump → ℕ → List ℕ → Judgement → List ℕ
bad_line d i b found =
    codes "0 " ++ (decimal (d.first + i) ++ (codes " have " ++ (have_text d.form b ++ (codes " want " ++ (guard_text d.form b ++ (codes " " ++ (tag_text d.form i ++ (codes " " ++ (name_of found ++ codes "\n")))))))))

abbrev pub line_if : Bool → List ℕ → List ℕ
line_if bad line = if bad then line else []

-- the line of block i, where it is at fault
abbrev pub block_text : Dump → ℕ → List ℕ → List ℕ
block_text d i b = line_if (is_bad (found_of d.form i b)) (bad_line d i b (found_of d.form i b))

-- those of blocks, the first of which has this number
abbrev pub blocks_text : Dump → ℕ → List (List ℕ) → List ℕ
blocks_text d i [] = []
blocks_text d i (b ∷ bs) = block_text d i b ++ blocks_text d (i + 1) bs

-- the whole blocks of a dump, and the bytes of one that is cut off behind them
abbrev pub blocks_of : Form → List ℕ → List (List ℕ)
blocks_of f bytes = frames_of (stride_of f) (length bytes / stride_of f) bytes

abbrev pub rest_of : Form → List ℕ → ℕ
rest_of f bytes = length bytes % stride_of f

abbrev pub tally_of : Form → List ℕ → DumpTally
tally_of f bytes = counted_all f none_counted (blocks_of f bytes)

-- the lines of the bad ones
abbrev pub bad_text : Dump → List ℕ → List ℕ
bad_text d bytes = blocks_text d 0 (blocks_of d.form bytes)

-- checked N bad M unchecked U
abbrev pub count_line : DumpTally → List ℕ
count_line t = codes "checked " ++ (decimal t.blocks ++ (codes " bad " ++ (decimal t.bad ++ (codes " unchecked " ++ (decimal t.unchecked ++ codes "\n")))))

-- two of the bad reference tags and more than half differ from the wanted ones by one number, that of the first of them
abbrev pub is_shifted : DumpTally → Bool
is_shifted t = ltb 1 t.same && ltb (t.tags - t.same) t.same

-- N higher or N lower
abbrev pub way_text : Form → ℕ → List ℕ
way_text f shift = if leb (2 * shift) (2 ^ bits_of f) then decimal shift ++ codes " higher" else decimal (2 ^ bits_of f - shift) ++ codes " lower"

-- the line that says so
abbrev pub shift_line : Form → DumpTally → List ℕ
shift_line f t = codes "most reference tags are " ++ (way_text f t.shift ++ (codes ": is the first one " ++ (decimal ((first_tag f + t.shift) % 2 ^ bits_of f) ++ codes "?\n")))

-- the line of a dump that ends within a block
abbrev pub cut_line : Form → ℕ → List ℕ
cut_line f rest = codes "the dump ends within a block: " ++ (decimal rest ++ (codes " of " ++ (decimal (stride_of f) ++ codes " bytes\n")))

-- the lines behind those of the blocks
abbrev pub last_text : Form → DumpTally → (rest : ℕ) → List ℕ
last_text f t rest = count_line t ++ (line_if (is_shifted t) (shift_line f t) ++ line_if (ltb 0 rest) (cut_line f rest))

-- the text of a dump
abbrev pub check_text : Dump → List ℕ → List ℕ
check_text d bytes = bad_text d bytes ++ last_text d.form (tally_of d.form bytes) (rest_of d.form bytes)
