use Rattle.std.specs.Prelude.{ℕ, true, false, eqb, if◌then◌else◌, List, [], ◌∷◌, codes, Option, Some, None}
use Rattle.std.specs.Str.{bytes_eq}
use Rattle.rig_api.specs.declared.units.UnitSpec.{UnitSpec}
use Rattle.call_verdict.specs.Units.{type_in}
use Rattle.call_verdict.specs.Words.{is_name, laid_out, units_in}
use Rattle.pi_tuple.specs.declared.checks.PiType.{PiType}
use Rattle.script_words.specs.Hexes.{byte_in}
use Rattle.lab_run.specs.CheckWords.{check_words_in, plain_words}
use Rattle.lab_run.specs.Layouts.{layout_in}
use Rattle.lab_run.specs.declared.check_words.CheckWords.{CheckWords}
use Rattle.lab_run.specs.Places.{place_in}
use Rattle.lab_run.specs.declared.command.Command.{Command}
use Rattle.lab_run.specs.declared.command.Command.TheVariants.{Help, Version, ShowUnits, ShowBlocks, Diff, Export, Import, Vectors, Judge, Explain, Sweep, Check, Failures}
use Rattle.image_text.specs.declared.layout.Layout.{Layout}
use Rattle.lab_run.specs.declared.place.PlaceWord.{PlaceWord}

-- The grammar of the program's words. Names of images, numbers and units are those of `dix`.

-- the command, where no words stand behind it
abbrev pub alone : Command → List (List ℕ) → Option Command
alone c [] = Some c
alone c (w ∷ words) = None

abbrev pub alone_behind : Command → Option (List (List ℕ)) → Option Command
alone_behind c None = None
alone_behind c (Some words) = alone c words

-- the words behind IMAGE
abbrev pub behind_image : List (List ℕ) → Option (List (List ℕ))
behind_image [] = None
behind_image (image ∷ words) = if is_name image then Some words else None

-- a place, and the words behind it
pub record PlaceAhead : Type 0 where
  pub place : PlaceWord
  pub rest : List (List ℕ)

abbrev pub ahead_of : Option PlaceWord → List (List ℕ) → Option PlaceAhead
ahead_of None words = None
ahead_of (Some place) words = Some (record { place = place; rest = words })

abbrev pub place_ahead : List (List ℕ) → Option PlaceAhead
place_ahead [] = None
place_ahead (word ∷ words) = ahead_of (place_in word) words

abbrev pub place_behind : Option (List (List ℕ)) → Option PlaceAhead
place_behind None = None
place_behind (Some words) = place_ahead words

-- IMAGE PLACE, and the words behind them
abbrev pub image_and_place : List (List ℕ) → Option PlaceAhead
image_and_place words = place_behind (behind_image words)

-- LAYOUT, and no word behind it
abbrev pub layout_alone : List (List ℕ) → Option Layout
layout_alone [] = None
layout_alone (word ∷ []) = layout_in word
layout_alone (word ∷ more ∷ words) = None

abbrev pub laid_by : PlaceWord → Option Layout → Option (PlaceWord × Layout)
laid_by place None = None
laid_by place (Some layout) = Some (place, layout)

abbrev pub laid_ahead : Option PlaceAhead → Option (PlaceWord × Layout)
laid_ahead None = None
laid_ahead (Some a) = laid_by a.place (layout_alone a.rest)

-- IMAGE PLACE LAYOUT
abbrev pub laid_in : List (List ℕ) → Option (PlaceWord × Layout)
laid_in words = laid_ahead (image_and_place words)

-- [--bad]
abbrev pub shown_place : PlaceWord → List (List ℕ) → Option Command
shown_place place [] = Some (ShowBlocks false place)
shown_place place (flag ∷ words) = if bytes_eq flag (codes "--bad") then alone (ShowBlocks true place) words else None

abbrev pub shown_at : Option PlaceWord → List (List ℕ) → Option Command
shown_at None words = None
shown_at (Some place) words = shown_place place words

-- [PLACE [--bad]]
abbrev pub shown : List (List ℕ) → Option Command
shown [] = Some ShowUnits
shown (word ∷ words) = shown_at (place_in word) words

abbrev pub shown_behind : Option (List (List ℕ)) → Option Command
shown_behind None = None
shown_behind (Some words) = shown words

-- IMAGE [PLACE [--bad]]
abbrev pub show_of : List (List ℕ) → Option Command
show_of words = shown_behind (behind_image words)

abbrev pub diff_with : PlaceWord → Option PlaceAhead → Option Command
diff_with one None = None
diff_with one (Some a) = alone (Diff one a.place) a.rest

abbrev pub diff_ahead : Option PlaceAhead → Option Command
diff_ahead None = None
diff_ahead (Some a) = diff_with a.place (image_and_place a.rest)

-- IMAGE PLACE IMAGE PLACE
abbrev pub diff_of : List (List ℕ) → Option Command
diff_of words = diff_ahead (image_and_place words)

abbrev pub exported : Option (PlaceWord × Layout) → Option Command
exported None = None
exported (Some p) = Some (Export p.0 p.1)

abbrev pub export_of : List (List ℕ) → Option Command
export_of words = exported (laid_in words)

abbrev pub imported : Option (PlaceWord × Layout) → Option Command
imported None = None
imported (Some p) = Some (Import p.0 p.1)

abbrev pub import_of : List (List ℕ) → Option Command
import_of words = imported (laid_in words)

-- IMAGE
abbrev pub vectors_of : List (List ℕ) → Option Command
vectors_of words = alone_behind Vectors (behind_image words)

-- [IMAGE]
abbrev pub explain_of : List (List ℕ) → Option Command
explain_of [] = Some Judge
explain_of (word ∷ words) = alone_behind Explain (behind_image (word ∷ words))

abbrev pub unless_zero : Option ℕ → Option ℕ
unless_zero None = None
unless_zero (Some b) = if eqb b 0 then None else Some b

-- BYTE: two hexadecimal digits, not 00
abbrev pub flip_in : List ℕ → Option ℕ
flip_in word = unless_zero (byte_in word)

abbrev pub sweep_with : Option ℕ → Option (List UnitSpec) → Option Command
sweep_with None us = None
sweep_with (Some byte) None = None
sweep_with (Some byte) (Some us) = Some (Sweep byte us)

-- BYTE T:BLOCKS .. or T:BLOCKS:SIZE:FIRST .., 1 to 8 units
abbrev pub sweep_of : List (List ℕ) → Option Command
sweep_of [] = None
sweep_of (byte ∷ words) = sweep_with (flip_in byte) (laid_out (units_in words))

abbrev pub check_with : Option CheckWords → Option Command
check_with None = None
check_with (Some said) = Some (Check said)

-- FLAG VALUE ..
abbrev pub check_of : List (List ℕ) → Option Command
check_of words = check_with (check_words_in words (Some plain_words))

abbrev pub failures_with : Option PiType → List (List ℕ) → Option Command
failures_with None words = None
failures_with (Some ty) words = alone (Failures ty) words

-- T
abbrev pub failures_of : List (List ℕ) → Option Command
failures_of [] = None
failures_of (word ∷ words) = failures_with (type_in word) words

-- the command of this name with these words behind it
abbrev pub command_by : List ℕ → List (List ℕ) → Option Command
command_by verb words =
    if bytes_eq verb (codes "--help") then alone Help words
    else (if bytes_eq verb (codes "--version") then alone Version words
    else (if bytes_eq verb (codes "show") then show_of words
    else (if bytes_eq verb (codes "diff") then diff_of words
    else (if bytes_eq verb (codes "export") then export_of words
    else (if bytes_eq verb (codes "import") then import_of words
    else (if bytes_eq verb (codes "vectors") then vectors_of words
    else (if bytes_eq verb (codes "explain") then explain_of words
    else (if bytes_eq verb (codes "sweep") then sweep_of words
    else (if bytes_eq verb (codes "check") then check_of words
    else (if bytes_eq verb (codes "failures") then failures_of words
    else None))))))))))

-- the command of the words, where they are in the grammar
abbrev pub command_in : List (List ℕ) → Option Command
command_in [] = None
command_in (verb ∷ words) = command_by verb words
