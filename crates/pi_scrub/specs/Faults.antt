use Rattle.std.specs.Prelude.{ℕ, ◌+◌, true, List, [], ◌∷◌, ◌++◌, Option, Some, None}
use Rattle.pi_guard.specs.Guards.{crc}
use Rattle.pi_tuple.specs.Finds.{finding}
use Rattle.pi_tuple.specs.Tuples.{ref_tag}
use Rattle.pi_tuple.specs.declared.checks.Check.{Check}
use Rattle.pi_tuple.specs.declared.checks.Checks.{Checks}
use Rattle.pi_tuple.specs.declared.checks.PiType.{PiType}
use Rattle.rig_api.specs.Frames.{data_of, tuple_of}
use Rattle.rig_api.specs.Passing.{is_one}
use Rattle.rig_api.specs.Target.{Stored}
use Rattle.bio_core.specs.declared.fate.Why.TheVariants.{Target}
use Rattle.pi_scrub.specs.declared.found.Found.{Found}

-- What a check of a stored block finds. The guard is checked in types 1 to 3, the reference tag in type 1, where it is the low 32 bits of the block's address; nothing in type 0 and in an escape (SBC-3, 4.22).

abbrev pub stored_checks : PiType → Checks
stored_checks ty = record { guard = true; rtag = is_one ty; app = 0; mask = 0 }

abbrev pub stored_finding : PiType → (size lba : ℕ) → List ℕ → Option Check
stored_finding ty size lba block = finding ty (stored_checks ty) (ref_tag lba) (crc (data_of size block)) (tuple_of size block)

abbrev pub listed : (dev lba : ℕ) → Option Check → List Found
listed dev lba None = []
listed dev lba (Some check) = record { dev = dev; lba = lba; why = Target check } ∷ []

-- the blocks at fault among these, which are stored from this address on
abbrev pub faults_from : PiType → (size dev lba : ℕ) → List (List ℕ) → List Found
faults_from ty size dev lba [] = []
faults_from ty size dev lba (b ∷ bs) = listed dev lba (stored_finding ty size lba b) ++ faults_from ty size dev (lba + 1) bs

-- the blocks at fault of a unit
abbrev pub faults_of : ℕ → Stored → List Found
faults_of dev u = faults_from u.ty u.size dev u.first u.blocks

-- and of all units, by device and address
abbrev pub all_faults : ℕ → List Stored → List Found
all_faults dev [] = []
all_faults dev (u ∷ us) = faults_of dev u ++ all_faults (dev + 1) us
