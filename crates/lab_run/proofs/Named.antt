-- The words of a `sweep` name a byte that alters others, and units that an image may have.
use Rattle.std.proofs.Common.{◌≡◌, ℕ, ◌≤◌, Bool, true, false, eqb, List, [], ◌∷◌, Option, Some, None, refl, subst, arith}
use Rattle.std.specs.Prelude.{codes, if◌then◌else◌}
use Rattle.std.specs.Str.{bytes_eq}
use Rattle.call_verdict.specs.Units.{type_in}
use Rattle.call_verdict.specs.Words.{laid_out, units_in}
use Rattle.pi_tuple.specs.declared.checks.PiType.{PiType}
use Rattle.lab_run.specs.CheckWords.{check_words_in, plain_words}
use Rattle.lab_run.specs.declared.check_words.CheckWords.{CheckWords}
use Rattle.lab_run.specs.Grammar.{PlaceAhead, alone, alone_behind, behind_image, check_of, check_with, command_by, command_in, diff_ahead, diff_of, diff_with, explain_of, export_of, exported, failures_of, failures_with, flip_in, image_and_place, import_of, imported, laid_in, show_of, shown, shown_at, shown_behind, shown_place, sweep_of, sweep_with, unless_zero, vectors_of}
use Rattle.lab_run.specs.Places.{place_in}
use Rattle.lab_run.specs.declared.command.Command.{Command}
use Rattle.lab_run.specs.declared.command.Command.TheVariants.{Help, Version, ShowUnits, ShowBlocks, Diff, Export, Import, Vectors, Judge, Explain, Sweep, Check, Failures}
use Rattle.image_text.specs.declared.layout.Layout.{Layout}
use Rattle.lab_run.specs.declared.place.PlaceWord.{PlaceWord}
use Rattle.script_words.specs.Hexes.{byte_in}
use Rattle.rig_api.specs.Headers.{is_layout}
use Rattle.rig_api.specs.declared.units.UnitSpec.{UnitSpec}

-- If it is a sweep, it can be done.
abbrev IsGood : Option Command → Type 0
IsGood None = Unit {0}
IsGood (Some Help) = Unit {0}
IsGood (Some Version) = Unit {0}
IsGood (Some ShowUnits) = Unit {0}
IsGood (Some (ShowBlocks only_bad place)) = Unit {0}
IsGood (Some (Diff one other)) = Unit {0}
IsGood (Some (Export place layout)) = Unit {0}
IsGood (Some (Import place layout)) = Unit {0}
IsGood (Some Vectors) = Unit {0}
IsGood (Some Judge) = Unit {0}
IsGood (Some Explain) = Unit {0}
IsGood (Some (Sweep byte units)) = (1 ≤ byte) × (is_layout units ≡ true)
IsGood (Some (Check said)) = Unit {0}
IsGood (Some (Failures ty)) = Unit {0}

-- ---- the words of a sweep

alters_by : (zero : Bool) (x b : ℕ) → eqb x 0 ≡ zero → (if zero then None else Some x) ≡ Some b → 1 ≤ b
alters_by true x b k e = absurd (cc)
alters_by false x b k e = let same : x ≡ b = cc in grind (arith, k, same)

alters : (o : Option ℕ) (b : ℕ) → unless_zero o ≡ Some b → 1 ≤ b
alters None b e = absurd (cc)
alters (Some x) b e = alters_by (eqb x 0) x b refl e

laid_by : (good : Bool) (us vs : List UnitSpec) → is_layout us ≡ good → (if good then Some us else None) ≡ Some vs → is_layout vs ≡ true
laid_by true us vs k e = let same : us ≡ vs = cc in subst (λ (x : List UnitSpec). is_layout x ≡ true) same k
laid_by false us vs k e = absurd (cc)

laid : (o : Option (List UnitSpec)) (us : List UnitSpec) → laid_out o ≡ Some us → is_layout us ≡ true
laid None us e = absurd (cc)
laid (Some vs) us e = laid_by (is_layout vs) vs us refl e

good_sweep_with : (o : Option ℕ) (u : Option (List UnitSpec)) → ((b : ℕ) → o ≡ Some b → 1 ≤ b) → ((us : List UnitSpec) → u ≡ Some us → is_layout us ≡ true) → IsGood (sweep_with o u)
good_sweep_with None u p q = tt
good_sweep_with (Some byte) None p q = tt
good_sweep_with (Some byte) (Some us) p q = (p byte refl, q us refl)

good_sweep : (words : List (List ℕ)) → IsGood (sweep_of words)
good_sweep [] = tt
good_sweep (byte ∷ words) = good_sweep_with (flip_in byte) (laid_out (units_in words)) (λ b e. alters (byte_in byte) b e) (λ us e. laid (units_in words) us e)

-- ---- the other commands are none

good_alone : (c : Command) (words : List (List ℕ)) → IsGood (Some c) → IsGood (alone c words)
good_alone c [] p = p
good_alone c (w ∷ words) p = tt

good_behind : (c : Command) (o : Option (List (List ℕ))) → IsGood (Some c) → IsGood (alone_behind c o)
good_behind c None p = tt
good_behind c (Some words) p = good_alone c words p

good_flag : (b : Bool) (place : PlaceWord) (words : List (List ℕ)) → IsGood (if b then alone (ShowBlocks true place) words else None)
good_flag true place words = good_alone (ShowBlocks true place) words tt
good_flag false place words = tt

good_place : (place : PlaceWord) (words : List (List ℕ)) → IsGood (shown_place place words)
good_place place [] = tt
good_place place (flag ∷ words) = good_flag (bytes_eq flag (codes "--bad")) place words

good_shown_at : (o : Option PlaceWord) (words : List (List ℕ)) → IsGood (shown_at o words)
good_shown_at None words = tt
good_shown_at (Some place) words = good_place place words

good_shown : (words : List (List ℕ)) → IsGood (shown words)
good_shown [] = tt
good_shown (word ∷ words) = good_shown_at (place_in word) words

good_shown_behind : (o : Option (List (List ℕ))) → IsGood (shown_behind o)
good_shown_behind None = tt
good_shown_behind (Some words) = good_shown words

good_diff_with : (one : PlaceWord) (o : Option PlaceAhead) → IsGood (diff_with one o)
good_diff_with one None = tt
good_diff_with one (Some a) = good_alone (Diff one a.place) a.rest tt

good_diff_ahead : (o : Option PlaceAhead) → IsGood (diff_ahead o)
good_diff_ahead None = tt
good_diff_ahead (Some a) = good_diff_with a.place (image_and_place a.rest)

good_exported : (o : Option (PlaceWord × Layout)) → IsGood (exported o)
good_exported None = tt
good_exported (Some p) = tt

good_imported : (o : Option (PlaceWord × Layout)) → IsGood (imported o)
good_imported None = tt
good_imported (Some p) = tt

good_explain : (words : List (List ℕ)) → IsGood (explain_of words)
good_explain [] = tt
good_explain (word ∷ words) = good_behind Explain (behind_image (word ∷ words)) tt

good_checked : (o : Option CheckWords) → IsGood (check_with o)
good_checked None = tt
good_checked (Some said) = tt

good_failures_with : (o : Option PiType) (words : List (List ℕ)) → IsGood (failures_with o words)
good_failures_with None words = tt
good_failures_with (Some ty) words = good_alone (Failures ty) words tt

good_failures : (words : List (List ℕ)) → IsGood (failures_of words)
good_failures [] = tt
good_failures (word ∷ words) = good_failures_with (type_in word) words

-- ---- the words

good_if : (b : Bool) (c d : Option Command) → IsGood c → IsGood d → IsGood (if b then c else d)
good_if true c d p q = p
good_if false c d p q = q

good_by : (verb : List ℕ) (words : List (List ℕ)) → IsGood (command_by verb words)
good_by verb words =
    let failing : Option Command = if bytes_eq verb (codes "failures") then failures_of words else None in
    let checking : Option Command = if bytes_eq verb (codes "check") then check_of words else failing in
    let sweep : Option Command = if bytes_eq verb (codes "sweep") then sweep_of words else checking in
    let explain : Option Command = if bytes_eq verb (codes "explain") then explain_of words else sweep in
    let vectors : Option Command = if bytes_eq verb (codes "vectors") then vectors_of words else explain in
    let importing : Option Command = if bytes_eq verb (codes "import") then import_of words else vectors in
    let exporting : Option Command = if bytes_eq verb (codes "export") then export_of words else importing in
    let diff : Option Command = if bytes_eq verb (codes "diff") then diff_of words else exporting in
    let show : Option Command = if bytes_eq verb (codes "show") then show_of words else diff in
    let version : Option Command = if bytes_eq verb (codes "--version") then alone Version words else show in
    good_if (bytes_eq verb (codes "--help")) (alone Help words) version (good_alone Help words tt)
    (good_if (bytes_eq verb (codes "--version")) (alone Version words) show (good_alone Version words tt)
    (good_if (bytes_eq verb (codes "show")) (show_of words) diff (good_shown_behind (behind_image words))
    (good_if (bytes_eq verb (codes "diff")) (diff_of words) exporting (good_diff_ahead (image_and_place words))
    (good_if (bytes_eq verb (codes "export")) (export_of words) importing (good_exported (laid_in words))
    (good_if (bytes_eq verb (codes "import")) (import_of words) vectors (good_imported (laid_in words))
    (good_if (bytes_eq verb (codes "vectors")) (vectors_of words) explain (good_behind Vectors (behind_image words) tt)
    (good_if (bytes_eq verb (codes "explain")) (explain_of words) sweep (good_explain words)
    (good_if (bytes_eq verb (codes "sweep")) (sweep_of words) checking (good_sweep words)
    (good_if (bytes_eq verb (codes "check")) (check_of words) failing (good_checked (check_words_in words (Some plain_words)))
    (good_if (bytes_eq verb (codes "failures")) (failures_of words) None (good_failures words) tt))))))))))

good : (words : List (List ℕ)) → IsGood (command_in words)
good [] = tt
good (verb ∷ words) = good_by verb words

pub sweep_good : (words : List (List ℕ)) (byte : ℕ) (units : List UnitSpec) → command_in words ≡ Some (Sweep byte units) → (1 ≤ byte) × (is_layout units ≡ true)
sweep_good words byte units e = subst IsGood e (good words)
