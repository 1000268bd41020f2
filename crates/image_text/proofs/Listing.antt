-- The lines of `show` tell a fault exactly where a scrub lists the block.
use Rattle.std.proofs.Common.{ℕ, ◌≡◌, ◌+◌, Bool, true, false, if◌then◌else◌, List, [], ◌∷◌, Option, Some, None, refl}
use Rattle.pi_guard.specs.Guards.{crc}
use Rattle.pi_tuple.specs.Finds.{asked_of, first_of, is_escaped}
use Rattle.pi_tuple.specs.Tuples.{ref_tag}
use Rattle.pi_tuple.specs.declared.checks.Check.{Check}
use Rattle.pi_tuple.specs.declared.checks.PiType.{PiType}
use Rattle.pi_tuple.specs.declared.checks.PiType.TheVariants.{Zero, One, Two, Three}
use Rattle.pi_scrub.specs.Faults.{all_faults, faults_from, listed, stored_checks, stored_finding}
use Rattle.rig_api.specs.Frames.{data_of, tuple_of}
use Rattle.rig_api.specs.Target.{Stored}
use Rattle.image_text.specs.Laws.{ShowsWhatAScrubLists, told_at, told_from, told_of_all}
use Rattle.image_text.specs.Sights.{by_finding, verdict_of}
use Rattle.image_text.specs.declared.sight.Verdict.TheVariants.{Escape}

told_if : (dev lba : ℕ) (e : Bool) (rest : Option Check) → told_at dev lba (if e then Escape else by_finding (if e then None else rest)) ≡ listed dev lba (if e then None else rest)
told_if dev lba true rest = refl
told_if dev lba false None = refl
told_if dev lba false (Some check) = refl

-- the line of a block tells a fault where a scrub lists it
one_told : (ty : PiType) (size dev lba : ℕ) (b : List ℕ) → told_at dev lba (verdict_of ty size lba b) ≡ listed dev lba (stored_finding ty size lba b)
one_told Zero size dev lba b = refl
one_told One size dev lba b = told_if dev lba (is_escaped One (tuple_of size b)) (first_of (asked_of One (stored_checks One) (ref_tag lba) (crc (data_of size b)) (tuple_of size b)))
one_told Two size dev lba b = told_if dev lba (is_escaped Two (tuple_of size b)) (first_of (asked_of Two (stored_checks Two) (ref_tag lba) (crc (data_of size b)) (tuple_of size b)))
one_told Three size dev lba b = told_if dev lba (is_escaped Three (tuple_of size b)) (first_of (asked_of Three (stored_checks Three) (ref_tag lba) (crc (data_of size b)) (tuple_of size b)))

from_told : (ty : PiType) (size dev lba : ℕ) (bs : List (List ℕ)) → told_from ty size dev lba bs ≡ faults_from ty size dev lba bs
from_told ty size dev lba [] = refl
from_told ty size dev lba (b ∷ bs) = rw (one_told ty size dev lba b, from_told ty size dev (lba + 1) bs) refl

all_told : (dev : ℕ) (us : List Stored) → told_of_all dev us ≡ all_faults dev us
all_told dev [] = refl
all_told dev (u ∷ us) = rw (from_told u.ty u.size dev u.first u.blocks, all_told (dev + 1) us) refl

pub lists_alike : ShowsWhatAScrubLists
lists_alike = λ us. all_told 0 us
