use Rattle.std.specs.Prelude.{◌≡◌, ℕ, zero, suc, ◌+◌, ◌*◌, ◌%◌, ◌^◌, Bool, true, false, not, List, [], ◌∷◌, length}
use lib.Lanes.{sum_l, zip2}
use Rattle.pi_guard.specs.declared.word_sums.Sums.{Sums}

-- the sum of the words of two bytes, the lower byte first: what the bytes add to a sum whose last word wants its lower byte
abbrev pub little_sum : List ℕ → ℕ
little_sum [] = 0
little_sum (x ∷ []) = x
little_sum (x ∷ y ∷ rest) = x + y * 256 + little_sum rest

-- a sum of words with its carries added back: at most 65,535, and 0 only for 0
unfoldable pub folded : ℕ → ℕ
folded zero = 0
folded (suc s) = s % 65535 + 1

-- whether the last word of these bytes wants its lower byte
abbrev pub is_half_open : List ℕ → Bool
is_half_open [] = false
is_half_open (x ∷ xs) = not (is_half_open xs)

-- whether the last word wants its lower byte after these bytes more
abbrev pub half_open_after : Bool → List ℕ → Bool
half_open_after open_before [] = open_before
half_open_after open_before (x ∷ xs) = half_open_after (not open_before) xs

-- what the next byte counts, as the lower byte of an open word or the higher one of a new word
abbrev pub weight_of : Bool → ℕ
weight_of true = 1
weight_of false = 256

-- a sum of numbers of 32 bits modulo 2^32, by those of their lower and upper halves
abbrev pub of_halves : ℕ → ℕ → ℕ
of_halves lower upper = (lower + upper * 2 ^ 16) % 2 ^ 32

-- the words of the numbers that were added come to s, those of the lower halves by themselves to `lower`
pub record SumTo (s : ℕ) (sums : Sums) : Type 0 where
  pub lower : List ℕ
  pub long : length lower ≡ 8
  pub long_upper : length sums.upper ≡ 8
  pub whole : sums.whole ≡ zip2 of_halves lower sums.upper
  pub sum : sum_l lower + sum_l sums.upper ≡ s
