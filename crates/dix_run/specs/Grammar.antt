use Rattle.std.specs.Prelude.{ℕ, ◌^◌, Bool, false, leb, ltb, ◌&&◌, if◌then◌else◌, List, [], ◌∷◌, codes, Option, Some, None}
use Rattle.std.specs.Str.{bytes_eq}
use Rattle.pi_tuple.specs.declared.checks.PiType.{PiType}
use Rattle.rig_api.specs.Headers.{is_layout}
use Rattle.rig_api.specs.declared.units.UnitSpec.{UnitSpec}
use Rattle.script_words.specs.Decimals.{number_in}
use Rattle.call_verdict.specs.Units.{type_in}
use Rattle.call_verdict.specs.Words.{is_name, units_in}
use Rattle.dix_run.specs.declared.command.Command.{Command}
use Rattle.dix_run.specs.declared.command.Command.TheVariants.{Run, Trace, Format, Migrate, Mirror, Scrub, Nvme, Modes, Big}

-- The grammar of the program's words.

abbrev pub is_one_name : List (List ℕ) → Bool
is_one_name [] = false
is_one_name (image ∷ []) = is_name image
is_one_name (image ∷ more ∷ words) = false

-- IMAGE
abbrev pub on_image : Command → List (List ℕ) → Option Command
on_image c words = if is_one_name words then Some c else None

abbrev pub format_with : Option (List UnitSpec) → Option Command
format_with None = None
format_with (Some us) = if is_layout us then Some (Format us) else None

-- IMAGE T:BLOCKS .. or T:BLOCKS:SIZE:FIRST .., 1 to 8 units
abbrev pub format_of : List (List ℕ) → Option Command
format_of [] = None
format_of (image ∷ words) = if is_name image then format_with (units_in words) else None

abbrev pub modes_with : Option PiType → Option Command
modes_with None = None
modes_with (Some ty) = Some (Modes ty)

-- T
abbrev pub modes_of : List (List ℕ) → Option Command
modes_of [] = None
modes_of (ty ∷ []) = modes_with (type_in ty)
modes_of (ty ∷ more ∷ words) = None

abbrev pub big_with : Option ℕ → Option ℕ → Option Command
big_with None seed = None
big_with (Some n) None = None
big_with (Some n) (Some seed) = if leb 1 n && (leb n 1024 && ltb seed (2 ^ 32)) then Some (Big n seed) else None

-- N SEED
abbrev pub big_of : List (List ℕ) → Option Command
big_of [] = None
big_of (n ∷ []) = None
big_of (n ∷ seed ∷ []) = big_with (number_in n) (number_in seed)
big_of (n ∷ seed ∷ more ∷ words) = None

-- the command of this name with these words behind it
abbrev pub command_by : List ℕ → List (List ℕ) → Option Command
command_by verb words =
    if bytes_eq verb (codes "run") then on_image Run words
    else (if bytes_eq verb (codes "trace") then on_image Trace words
    else (if bytes_eq verb (codes "format") then format_of words
    else (if bytes_eq verb (codes "migrate") then on_image Migrate words
    else (if bytes_eq verb (codes "mirror") then on_image Mirror words
    else (if bytes_eq verb (codes "scrub") then on_image Scrub words
    else (if bytes_eq verb (codes "nvme") then on_image Nvme words
    else (if bytes_eq verb (codes "modes") then modes_of words
    else (if bytes_eq verb (codes "big") then big_of words
    else None))))))))

-- the command of the words, where they are in the grammar
abbrev pub command_in : List (List ℕ) → Option Command
command_in [] = None
command_in (verb ∷ words) = command_by verb words
