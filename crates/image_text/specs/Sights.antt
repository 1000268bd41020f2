use Rattle.std.specs.Prelude.{ℕ, Bool, true, false, not, ◌&&◌, if◌then◌else◌, List, [], ◌++◌, codes, decimal, Option, Some, None}
use Rattle.std.specs.Int.{w16, w32, to_be_bytes}
use Rattle.hex.specs.Hex.{encode_lower}
use Rattle.pi_guard.specs.Guards.{crc}
use Rattle.pi_tuple.specs.Finds.{finding, is_escaped, is_zero}
use Rattle.pi_tuple.specs.Tuples.{ref_tag}
use Rattle.pi_tuple.specs.declared.checks.Check.{Check}
use Rattle.pi_tuple.specs.declared.checks.PiType.{PiType}
use Rattle.pi_tuple.specs.declared.tuple.Tuple.{Tuple}
use Rattle.pi_scrub.specs.Faults.{stored_checks, stored_finding}
use Rattle.report_text.specs.Report.{check_text}
use Rattle.rig_api.specs.Frames.{data_of, tuple_of}
use Rattle.rig_api.specs.Passing.{is_one}
use Rattle.image_text.specs.declared.sight.Verdict.{Verdict}
use Rattle.image_text.specs.declared.sight.Verdict.TheVariants.{NoTuple, Escape, AtFault, Good}

-- The line of a stored block: the tuple that it has, what it should have, and what is found.

abbrev pub by_finding : Option Check → Verdict
by_finding None = Good
by_finding (Some check) = AtFault check

-- what is found of a block of a type with tuples: the guard is checked, and in type 1 the reference tag
abbrev pub verdict_by : PiType → (lba guard : ℕ) → Tuple → Verdict
verdict_by ty lba guard t = if is_escaped ty t then Escape else by_finding (finding ty (stored_checks ty) (ref_tag lba) guard t)

-- what is found of a stored block: nothing in type 0 and in an escape, else what a scrub finds
abbrev pub verdict_of : PiType → (size lba : ℕ) → List ℕ → Verdict
verdict_of ty size lba b = if is_zero ty then NoTuple else (if is_escaped ty (tuple_of size b) then Escape else by_finding (stored_finding ty size lba b))

abbrev pub is_at_fault : Verdict → Bool
is_at_fault NoTuple = false
is_at_fault Escape = false
is_at_fault (AtFault check) = true
is_at_fault Good = false

-- the block has no tuple, or one that says that it isn't to be checked
abbrev pub is_unchecked : Verdict → Bool
is_unchecked NoTuple = true
is_unchecked Escape = true
is_unchecked (AtFault check) = false
is_unchecked Good = false

abbrev pub verdict_text : Verdict → List ℕ
verdict_text NoTuple = codes "none"
verdict_text Escape = codes "escape"
verdict_text (AtFault check) = check_text check
verdict_text Good = codes "ok"

-- GUARD APP REF
abbrev pub tuple_text : Tuple → List ℕ
tuple_text t = encode_lower (to_be_bytes w16 t.guard) ++ (codes " " ++ (encode_lower (to_be_bytes w16 t.app) ++ (codes " " ++ encode_lower (to_be_bytes w32 t.rtag))))

-- the reference tag that type 1 wants; in the other types it is the owner's
abbrev pub ref_text : PiType → ℕ → List ℕ
ref_text ty lba = if is_one ty then encode_lower (to_be_bytes w32 (ref_tag lba)) else codes "-"

-- the tuple that a block has: none in type 0
abbrev pub have_text : PiType → Tuple → List ℕ
have_text ty t = if is_zero ty then codes "- - -" else tuple_text t

-- the guard of its data and the reference tag that is wanted: none in type 0
abbrev pub want_text : PiType → (lba guard : ℕ) → List ℕ
want_text ty lba guard = if is_zero ty then codes "- -" else encode_lower (to_be_bytes w16 guard) ++ (codes " " ++ ref_text ty lba)

-- have GUARD APP REF want GUARD REF VERDICT
abbrev pub sight_text : PiType → (lba guard : ℕ) → Tuple → Verdict → List ℕ
sight_text ty lba guard t verdict = codes "have " ++ (have_text ty t ++ (codes " want " ++ (want_text ty lba guard ++ (codes " " ++ verdict_text verdict))))

-- DEV LBA, and what is told of the block
abbrev pub block_line : (dev : ℕ) → PiType → (size lba : ℕ) → List ℕ → List ℕ
block_line dev ty size lba b =
    decimal dev ++ (codes " " ++ (decimal lba ++ (codes " " ++ (sight_text ty lba (crc (data_of size b)) (tuple_of size b) (verdict_of ty size lba b) ++ codes "\n"))))

-- the line of a block, unless the blocks at fault alone are told and it isn't one
abbrev pub block_text : (only_bad : Bool) → (dev : ℕ) → PiType → (size lba : ℕ) → List ℕ → List ℕ
block_text only_bad dev ty size lba b = if only_bad && not (is_at_fault (verdict_of ty size lba b)) then [] else block_line dev ty size lba b
