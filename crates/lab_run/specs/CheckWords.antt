use Rattle.std.specs.Prelude.{ℕ, if◌then◌else◌, List, [], ◌∷◌, codes, Option, Some, None, option_map}
use Rattle.std.specs.Str.{bytes_eq}
use Rattle.script_words.specs.Hexes.{tag_in}
use Rattle.script_words.specs.Decimals.{number_in}
use Rattle.script_words.specs.Numbers.{number_within}
use Rattle.lab_run.specs.declared.check_words.CheckWords.{CheckWords}

-- The words of `check`: flags, each with its value behind it.

abbrev pub plain_words : CheckWords
plain_words = record { pi_type = 1; first = 0; size = 512; meta = 8; at = 0; guard = 16; storage = None; tag = None; app = None; mask = None }

-- with another word for one part
abbrev pub with_size : CheckWords → ℕ → CheckWords
with_size w n = record { pi_type = w.pi_type; first = w.first; size = n; meta = w.meta; at = w.at; guard = w.guard; storage = w.storage; tag = w.tag; app = w.app; mask = w.mask }

abbrev pub with_meta : CheckWords → ℕ → CheckWords
with_meta w n = record { pi_type = w.pi_type; first = w.first; size = w.size; meta = n; at = w.at; guard = w.guard; storage = w.storage; tag = w.tag; app = w.app; mask = w.mask }

abbrev pub with_at : CheckWords → ℕ → CheckWords
with_at w n = record { pi_type = w.pi_type; first = w.first; size = w.size; meta = w.meta; at = n; guard = w.guard; storage = w.storage; tag = w.tag; app = w.app; mask = w.mask }

abbrev pub with_guard : CheckWords → ℕ → CheckWords
with_guard w n = record { pi_type = w.pi_type; first = w.first; size = w.size; meta = w.meta; at = w.at; guard = n; storage = w.storage; tag = w.tag; app = w.app; mask = w.mask }

abbrev pub with_storage : CheckWords → ℕ → CheckWords
with_storage w n = record { pi_type = w.pi_type; first = w.first; size = w.size; meta = w.meta; at = w.at; guard = w.guard; storage = Some n; tag = w.tag; app = w.app; mask = w.mask }

abbrev pub with_type : CheckWords → ℕ → CheckWords
with_type w n = record { pi_type = n; first = w.first; size = w.size; meta = w.meta; at = w.at; guard = w.guard; storage = w.storage; tag = w.tag; app = w.app; mask = w.mask }

abbrev pub with_first : CheckWords → ℕ → CheckWords
with_first w n = record { pi_type = w.pi_type; first = n; size = w.size; meta = w.meta; at = w.at; guard = w.guard; storage = w.storage; tag = w.tag; app = w.app; mask = w.mask }

abbrev pub with_tag : CheckWords → ℕ → CheckWords
with_tag w n = record { pi_type = w.pi_type; first = w.first; size = w.size; meta = w.meta; at = w.at; guard = w.guard; storage = w.storage; tag = Some n; app = w.app; mask = w.mask }

abbrev pub with_app : CheckWords → ℕ → CheckWords
with_app w n = record { pi_type = w.pi_type; first = w.first; size = w.size; meta = w.meta; at = w.at; guard = w.guard; storage = w.storage; tag = w.tag; app = Some n; mask = w.mask }

abbrev pub with_mask : CheckWords → ℕ → CheckWords
with_mask w n = record { pi_type = w.pi_type; first = w.first; size = w.size; meta = w.meta; at = w.at; guard = w.guard; storage = w.storage; tag = w.tag; app = w.app; mask = Some n }

abbrev pub layout_flagged : CheckWords → (flag value : List ℕ) → Option CheckWords
layout_flagged w flag value =
    if bytes_eq flag (codes "--size") then option_map (with_size w) (number_within 1 65536 value)
    else (if bytes_eq flag (codes "--meta") then option_map (with_meta w) (number_within 8 64 value)
    else (if bytes_eq flag (codes "--at") then option_map (with_at w) (number_within 0 56 value)
    else (if bytes_eq flag (codes "--guard") then option_map (with_guard w) (number_within 16 64 value)
    else (if bytes_eq flag (codes "--storage") then option_map (with_storage w) (number_within 0 64 value)
    else None))))

abbrev pub want_flagged : CheckWords → (flag value : List ℕ) → Option CheckWords
want_flagged w flag value =
    if bytes_eq flag (codes "--type") then option_map (with_type w) (number_within 1 3 value)
    else (if bytes_eq flag (codes "--first") then option_map (with_first w) (number_within 0 0x7FFFFFFFFFFFFFFF value)
    else (if bytes_eq flag (codes "--ref") then option_map (with_tag w) (number_in value)
    else (if bytes_eq flag (codes "--app") then option_map (with_app w) (tag_in value)
    else (if bytes_eq flag (codes "--mask") then option_map (with_mask w) (tag_in value)
    else None))))

abbrev pub or_else : Option CheckWords → Option CheckWords → Option CheckWords
or_else None other = other
or_else (Some w) other = Some w

-- with a flag and its value
abbrev pub flagged : CheckWords → (flag value : List ℕ) → Option CheckWords
flagged w flag value = or_else (layout_flagged w flag value) (want_flagged w flag value)

abbrev pub flagged_if : Option CheckWords → (flag value : List ℕ) → Option CheckWords
flagged_if None flag value = None
flagged_if (Some w) flag value = flagged w flag value

-- with the words behind; where a flag comes again its last value counts
abbrev pub check_words_in : List (List ℕ) → Option CheckWords → Option CheckWords
check_words_in [] w = w
check_words_in (flag ∷ []) w = None
check_words_in (flag ∷ value ∷ words) w = check_words_in words (flagged_if w flag value)
