use Rattle.std.specs.Prelude.{ℕ, Bool, true, false, eqb, if◌then◌else◌, List, ◌++◌, codes, Option, Some, None}
use Rattle.pi_guard.specs.declared.GuardKind.TheVariants.{Crc}
use Rattle.pi_tuple.specs.declared.checks.PiType.{PiType}
use Rattle.fault_schedule.specs.declared.fault.Crossing.{Crossing}
use Rattle.fault_schedule.specs.declared.fault.Crossing.TheVariants.{HostToAdapter, AdapterToTarget, TargetToMedium, MediumToTarget, TargetToAdapter, AdapterToHost}
use Rattle.block_path.specs.declared.mode.Mode.{Mode}
use Rattle.mode_map.specs.Finders.{finder}
use Rattle.mode_map.specs.declared.finder.Seen.{Seen}
use Rattle.mode_map.specs.declared.finder.Seen.TheVariants.{Adapter, Target, Owner}

-- The text of the modes of a type.

abbrev pub on_off : Bool → List ℕ
on_off on = if on then codes "on" else codes "off"

-- the protect field counts where tuples travel to the target
abbrev pub protect_text : Mode → List ℕ
protect_text mode = if mode.dif then (if eqb mode.protect 1 then codes "1" else (if eqb mode.protect 3 then codes "3" else codes "4")) else codes "-"

abbrev pub seen_text : Option Seen → List ℕ
seen_text (Some Adapter) = codes "adapter"
seen_text (Some Target) = codes "target"
seen_text (Some Owner) = codes "owner"
seen_text None = codes "none"

abbrev pub mode_of : (dix dif : Bool) (protect : ℕ) → Mode
mode_of dix dif protect = record { kind = Crc; dix = dix; dif = dif; protect = protect; app = 0; mask = 0 }

abbrev pub word : Mode → PiType → Crossing → List ℕ
word mode ty at = codes " " ++ seen_text (finder mode ty at)

-- whether tuples travel between host and adapter, whether they do between adapter and target, and the protect field
abbrev pub mode_text : Mode → List ℕ
mode_text mode = on_off mode.dix ++ (codes " " ++ (on_off mode.dif ++ (codes " " ++ protect_text mode)))

-- the first finder at each crossing of a write, and at each of a read
abbrev pub out_words : Mode → PiType → List ℕ
out_words mode ty = word mode ty HostToAdapter ++ (word mode ty AdapterToTarget ++ word mode ty TargetToMedium)

abbrev pub in_words : Mode → PiType → List ℕ
in_words mode ty = word mode ty MediumToTarget ++ (word mode ty TargetToAdapter ++ word mode ty AdapterToHost)

abbrev pub line : Mode → PiType → List ℕ
line mode ty = mode_text mode ++ (out_words mode ty ++ (in_words mode ty ++ codes "\n"))

abbrev pub four_lines : Bool → PiType → List ℕ
four_lines dix ty = line (mode_of dix false 1) ty ++ (line (mode_of dix true 1) ty ++ (line (mode_of dix true 3) ty ++ line (mode_of dix true 4) ty))

abbrev pub modes_text : PiType → List ℕ
modes_text ty = four_lines false ty ++ four_lines true ty
