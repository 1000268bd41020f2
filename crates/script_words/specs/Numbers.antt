use Rattle.std.specs.Prelude.{ℕ, ◌-◌, ℤ, pos, negsuc, Bool, nat_le, ◌&&◌, eqb, if◌then◌else◌, List, [], ◌∷◌, Option, Some, None}
use Rattle.script_words.specs.Decimals.{number_in}

abbrev pub in_range : ℕ → ℕ → Option ℕ → Option ℕ
in_range low high None = None
in_range low high (Some n) = if nat_le low n && nat_le n high then Some n else None

-- the number that a word spells, in this range
abbrev pub number_within : ℕ → ℕ → List ℕ → Option ℕ
number_within low high word = in_range low high (number_in word)

abbrev pub as_positive : Option ℕ → Option ℤ
as_positive None = None
as_positive (Some n) = Some (pos n)

-- a number that isn't 0, with its sign turned
abbrev pub as_negative : Option ℕ → Option ℤ
as_negative None = None
as_negative (Some n) = Some (negsuc (n - 1))

-- a number, or a hyphen and a number other than 0, of at most this size
abbrev pub signed_within : ℕ → List ℕ → Option ℤ
signed_within most [] = None
signed_within most (b ∷ rest) = if eqb b 45 then as_negative (number_within 1 most rest) else as_positive (number_within 0 most (b ∷ rest))
