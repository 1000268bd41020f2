use Rattle.std.specs.Prelude.{ℕ, ◌+◌, ◌-◌, ◌*◌, ◌^◌, Bool, false, not, ◌&&◌, eqb, nat_le, nat_lt, if◌then◌else◌, List, [], ◌∷◌, Option, Some, None}
use Rattle.std.specs.List.{list_all}

abbrev pub is_digit : ℕ → Bool
is_digit b = nat_le 48 b && nat_le b 57

-- A number is 0, or digits without a leading zero.
abbrev pub is_number : List ℕ → Bool
is_number [] = false
is_number (d ∷ []) = is_digit d
is_number (d ∷ e ∷ more) = is_digit d && (not (eqb d 48) && list_all is_digit (e ∷ more))

abbrev pub value_from : ℕ → List ℕ → ℕ
value_from n [] = n
value_from n (d ∷ more) = value_from (n * 10 + (d - 48)) more

-- the number that a word spells, below 2 ^ 64
abbrev pub number_in : List ℕ → Option ℕ
number_in word = if is_number word && nat_lt (value_from 0 word) (2 ^ 64) then Some (value_from 0 word) else None
