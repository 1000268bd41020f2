use Rattle.std.specs.Prelude.{ℕ, ◌++◌, List, [], ◌∷◌}
use Rattle.std.specs.Prelude.{Bool, nat_le, length}
use Rattle.std.specs.List.{list_all}
use Rattle.script_words.specs.Cuts.{lines_of}
use Rattle.dix_base.specs.declared.reading.TheConstants.{LONGEST_LINE}

-- words with a space between each two
abbrev pub spaced : List (List ℕ) → List ℕ
spaced [] = []
spaced (w ∷ []) = w
spaced (w ∷ v ∷ ws) = w ++ (32 ∷ spaced (v ∷ ws))

abbrev pub is_short : List ℕ → Bool
is_short line = nat_le (length line) LONGEST_LINE

-- No line of the text has more than 4,096 bytes.
abbrev pub has_short_lines : List ℕ → Bool
has_short_lines text = list_all is_short (lines_of text)
