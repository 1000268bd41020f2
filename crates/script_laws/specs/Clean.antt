use Rattle.std.specs.Prelude.{ℕ, ◌≡◌, Bool, true, false, ◌&&◌, not, eqb, nat_le, List, [], ◌∷◌}
use Rattle.std.specs.List.{list_all}

-- bytes that can stand in a word: from exclamation mark to tilde
abbrev pub is_visible : ℕ → Bool
is_visible b = nat_le 33 b && nat_le b 126

abbrev pub clean : List ℕ → Bool
clean w = list_all is_visible w

abbrev pub is_filled : List ℕ → Bool
is_filled [] = false
is_filled (b ∷ bs) = true

pub record IsWord (w : List ℕ) : Type 0 where
  pub clean_is : clean w ≡ true
  pub filled_is : is_filled w ≡ true

-- a list without a byte
abbrev pub avoids : ℕ → List ℕ → Bool
avoids mark w = list_all (λ b. not (eqb b mark)) w

abbrev pub AreWords : List (List ℕ) → Type 0
AreWords [] = Unit {0}
AreWords (w ∷ ws) = IsWord w × AreWords ws
