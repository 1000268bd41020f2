-- The lines of blocks are taken apart block by block, and so is the number of those at fault.
use Rattle.std.proofs.Common.{ℕ, ◌≡◌, ◌+◌, ◌-◌, ◌<◌, ◌≤◌, Bool, true, false, if◌then◌else◌, List, ◌∷◌, ◌++◌, length, take, drop, get_or, is_some, Option, Some, None, refl, sym, ap, ◌∙◌, arith, add-one, drop-cons}
use Rattle.std.proofs.lemmas.List.{length-append}
use Rattle.pi_scrub.specs.Faults.{faults_from, listed, stored_checks, stored_finding}
use Rattle.pi_tuple.specs.declared.checks.Check.{Check}
use Rattle.pi_tuple.specs.declared.checks.PiType.{PiType}
use Rattle.rig_api.specs.Frames.{frames_of}
use Rattle.image_text.proofs.Frames.{next_frame}
use Rattle.pi_guard.specs.Guards.{crc}
use Rattle.pi_tuple.specs.Finds.{asked_of, first_of, is_escaped}
use Rattle.pi_tuple.specs.Tuples.{ref_tag}
use Rattle.pi_tuple.specs.declared.checks.PiType.TheVariants.{Zero, One, Two, Three}
use Rattle.rig_api.specs.Frames.{data_of, tuple_of}
use Rattle.image_text.specs.Sights.{block_text, by_finding, is_at_fault, is_unchecked, verdict_of}
use Rattle.image_text.specs.declared.sight.Verdict.{Verdict}
use Rattle.image_text.specs.declared.sight.Verdict.TheVariants.{Escape}
use Rattle.image_text.specs.UnitText.{unit_line, unit_lines}
use Rattle.rig_api.specs.declared.units.UnitSpec.{UnitSpec}
use Rattle.image_text.specs.ShowText.{count_bad, count_unchecked, image_text, one_if}

pub next_lines : (only_bad : Bool) (dev : ℕ) (ty : PiType) (size lba len n : ℕ) (bytes : List ℕ) → 0 < n →
    image_text only_bad dev ty size lba (frames_of len n bytes) ≡ block_text only_bad dev ty size lba (take len bytes) ++ image_text only_bad dev ty size (lba + 1) (frames_of len (n - 1) (drop len bytes))
next_lines only_bad dev ty size lba len n bytes h = ap (image_text only_bad dev ty size lba) (next_frame len n bytes h)

-- a block is at fault where a scrub finds something
found_if : (e : Bool) (rest : Option Check) → is_at_fault (if e then Escape else by_finding (if e then None else rest)) ≡ is_some (if e then None else rest)
found_if true rest = refl
found_if false None = refl
found_if false (Some check) = refl

fault_found : (ty : PiType) (size lba : ℕ) (b : List ℕ) → is_at_fault (verdict_of ty size lba b) ≡ is_some (stored_finding ty size lba b)
fault_found Zero size lba b = refl
fault_found One size lba b = found_if (is_escaped One (tuple_of size b)) (first_of (asked_of One (stored_checks One) (ref_tag lba) (crc (data_of size b)) (tuple_of size b)))
fault_found Two size lba b = found_if (is_escaped Two (tuple_of size b)) (first_of (asked_of Two (stored_checks Two) (ref_tag lba) (crc (data_of size b)) (tuple_of size b)))
fault_found Three size lba b = found_if (is_escaped Three (tuple_of size b)) (first_of (asked_of Three (stored_checks Three) (ref_tag lba) (crc (data_of size b)) (tuple_of size b)))

one_listed : (dev lba : ℕ) (found : Option Check) (rest : ℕ) → length (listed dev lba found) + rest ≡ one_if (is_some found) + rest
one_listed dev lba None rest = refl
one_listed dev lba (Some check) rest = refl

counts : (ty : PiType) (size dev lba : ℕ) (b : List ℕ) (bs : List (List ℕ)) → count_bad ty size dev lba (b ∷ bs) ≡ one_if (is_some (stored_finding ty size lba b)) + count_bad ty size dev (lba + 1) bs
counts ty size dev lba b bs =
    length-append (listed dev lba (stored_finding ty size lba b)) (faults_from ty size dev (lba + 1) bs) ∙ one_listed dev lba (stored_finding ty size lba b) (count_bad ty size dev (lba + 1) bs)

pub next_bad : (dev : ℕ) (ty : PiType) (size lba len n : ℕ) (bytes : List ℕ) → 0 < n →
    count_bad ty size dev lba (frames_of len n bytes) ≡ one_if (is_some (stored_finding ty size lba (take len bytes))) + count_bad ty size dev (lba + 1) (frames_of len (n - 1) (drop len bytes))
next_bad dev ty size lba len n bytes h =
    ap (count_bad ty size dev lba) (next_frame len n bytes h) ∙ counts ty size dev lba (take len bytes) (frames_of len (n - 1) (drop len bytes))

pub next_unit : (dev i : ℕ) (us : List UnitSpec) (u : UnitSpec) (line : List ℕ) → i < length us → line ≡ unit_line dev (get_or us i u) → unit_lines dev (drop i us) ≡ line ++ unit_lines (dev + 1) (drop (i + 1) us)
next_unit dev i us u line h e =
    ap (unit_lines dev) (drop-cons us i u h) ∙ ap (λ (k : ℕ). unit_line dev (get_or us i u) ++ unit_lines (dev + 1) (drop k us)) (sym (add-one i)) ∙ ap (λ (x : List ℕ). x ++ unit_lines (dev + 1) (drop (i + 1) us)) (sym e)

-- the line of the next block, and the lines behind it
pub lines_at : (only_bad : Bool) (dev : ℕ) (ty : PiType) (size lba len m n : ℕ) (rest block more : List ℕ) → m ≡ len → block ≡ take m rest → more ≡ drop m rest → 0 < n →
    image_text only_bad dev ty size lba (frames_of len n rest) ≡ block_text only_bad dev ty size lba block ++ image_text only_bad dev ty size (lba + 1) (frames_of len (n - 1) more)
lines_at only_bad dev ty size lba len m n rest block more e b r h = rw (b, r, e) (next_lines only_bad dev ty size lba len n rest h)

-- one block more is counted
pub bad_at : (dev : ℕ) (ty : PiType) (size lba len m n bad next total : ℕ) (verdict : Verdict) (rest block more : List ℕ) → m ≡ len → block ≡ take m rest → more ≡ drop m rest → verdict ≡ verdict_of ty size lba block → 0 < n →
    bad + count_bad ty size dev lba (frames_of len n rest) ≡ total → next ≡ bad + one_if (is_at_fault verdict) → next + count_bad ty size dev (lba + 1) (frames_of len (n - 1) more) ≡ total
bad_at dev ty size lba len m n bad next total verdict rest block more e b r f h sum new =
    let same : block ≡ take len rest = b ∙ ap (λ (k : ℕ). take k rest) e in
    let one : one_if (is_at_fault verdict) ≡ one_if (is_some (stored_finding ty size lba (take len rest))) =
    ap (λ (v : Verdict). one_if (is_at_fault v)) (f ∙ ap (verdict_of ty size lba) same) ∙ ap one_if (fault_found ty size lba (take len rest)) in
    let left : count_bad ty size dev (lba + 1) (frames_of len (n - 1) more) ≡ count_bad ty size dev (lba + 1) (frames_of len (n - 1) (drop len rest)) =
    ap (λ (x : List ℕ). count_bad ty size dev (lba + 1) (frames_of len (n - 1) x)) (r ∙ ap (λ (k : ℕ). drop k rest) e) in
    let step = next_bad dev ty size lba len n rest h in
    omega (arith, one, left, step, sum, new)

-- and so is one that isn't checked
pub unchecked_at : (ty : PiType) (size lba len m n some next total : ℕ) (verdict : Verdict) (rest block more : List ℕ) → m ≡ len → block ≡ take m rest → more ≡ drop m rest → verdict ≡ verdict_of ty size lba block → 0 < n →
    some + count_unchecked ty size lba (frames_of len n rest) ≡ total → next ≡ some + one_if (is_unchecked verdict) → next + count_unchecked ty size (lba + 1) (frames_of len (n - 1) more) ≡ total
unchecked_at ty size lba len m n some next total verdict rest block more e b r f h sum new =
    let same : block ≡ take len rest = b ∙ ap (λ (k : ℕ). take k rest) e in
    let one : one_if (is_unchecked verdict) ≡ one_if (is_unchecked (verdict_of ty size lba (take len rest))) = ap (λ (v : Verdict). one_if (is_unchecked v)) (f ∙ ap (verdict_of ty size lba) same) in
    let left : count_unchecked ty size (lba + 1) (frames_of len (n - 1) more) ≡ count_unchecked ty size (lba + 1) (frames_of len (n - 1) (drop len rest)) =
    ap (λ (x : List ℕ). count_unchecked ty size (lba + 1) (frames_of len (n - 1) x)) (r ∙ ap (λ (k : ℕ). drop k rest) e) in
    let step : count_unchecked ty size lba (frames_of len n rest) ≡ one_if (is_unchecked (verdict_of ty size lba (take len rest))) + count_unchecked ty size (lba + 1) (frames_of len (n - 1) (drop len rest)) =
    ap (count_unchecked ty size lba) (next_frame len n rest h) in
    omega (arith, one, left, step, sum, new)

pub at_most_one : (is_bad : Bool) (bad next n count : ℕ) → next ≡ bad + one_if is_bad → bad + n ≤ count → 0 < n → next + (n - 1) ≤ count
at_most_one true bad next n count e f h = omega (arith, e, f, h)
at_most_one false bad next n count e f h = omega (arith, e, f, h)
