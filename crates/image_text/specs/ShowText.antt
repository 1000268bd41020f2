use Rattle.std.specs.Prelude.{ℕ, ◌+◌, Bool, if◌then◌else◌, List, [], ◌∷◌, ◌++◌, length, codes, decimal}
use Rattle.pi_scrub.specs.Faults.{faults_from}
use Rattle.pi_tuple.specs.declared.checks.PiType.{PiType}
use Rattle.rig_api.specs.declared.units.UnitSpec.{UnitSpec}
use Rattle.image_text.specs.Sights.{block_text, is_unchecked, verdict_of}
use Rattle.image_text.specs.declared.show.Tally.{Tally}

-- The text of the stored blocks of a place.

abbrev pub first_line : List ℕ
first_line = codes "dix show 1\n"

-- a line for each block, from this address on, or for each at fault alone
abbrev pub image_text : (only_bad : Bool) → (dev : ℕ) → PiType → (size lba : ℕ) → List (List ℕ) → List ℕ
image_text only_bad dev ty size lba [] = []
image_text only_bad dev ty size lba (b ∷ bs) = block_text only_bad dev ty size lba b ++ image_text only_bad dev ty size (lba + 1) bs

-- how many of these blocks a scrub lists
abbrev pub count_bad : PiType → (size dev lba : ℕ) → List (List ℕ) → ℕ
count_bad ty size dev lba blocks = length (faults_from ty size dev lba blocks)

abbrev pub one_if : Bool → ℕ
one_if is_bad = if is_bad then 1 else 0

-- how many of these blocks aren't checked: escapes, and all blocks of type 0
abbrev pub count_unchecked : PiType → (size lba : ℕ) → List (List ℕ) → ℕ
count_unchecked ty size lba [] = 0
count_unchecked ty size lba (b ∷ bs) = one_if (is_unchecked (verdict_of ty size lba b)) + count_unchecked ty size (lba + 1) bs

-- how many of these blocks are at fault, and how many aren't checked
abbrev pub tally_of_all : PiType → (size dev lba : ℕ) → List (List ℕ) → Tally
tally_of_all ty size dev lba blocks = record { bad = count_bad ty size dev lba blocks; unchecked = count_unchecked ty size lba blocks }

abbrev pub last_line : ℕ → Tally → List ℕ
last_line count tally = codes "shown " ++ (decimal count ++ (codes " bad " ++ (decimal tally.bad ++ (codes " unchecked " ++ (decimal tally.unchecked ++ codes "\n")))))

-- the text of these blocks of a unit, the first of which has this address
abbrev pub show_text : (only_bad : Bool) → (dev : ℕ) → UnitSpec → (first : ℕ) → List (List ℕ) → List ℕ
show_text only_bad dev u first blocks = first_line ++ (image_text only_bad dev u.ty u.size first blocks ++ last_line (length blocks) (tally_of_all u.ty u.size dev first blocks))
