use Rattle.std.specs.Prelude.{ℕ, ◌+◌, ◌==◌, Bool, eqb, nat_le, ◌&&◌, if◌then◌else◌, List, [], ◌∷◌, take, drop, Option, Some, None}
use Rattle.std.specs.List.{list_all, position}

abbrev pub is_byte : ℕ → ℕ → Bool
is_byte mark b = b == mark

-- a text cut at a byte
pub record Cut : Type 0 where
  pub before : List ℕ
  pub after : List ℕ

abbrev pub cut_by : List ℕ → Option ℕ → Option Cut
cut_by text None = None
cut_by text (Some i) = Some (record { before = take i text; after = drop (i + 1) text })

-- the text cut at the first such byte, where it has one
abbrev pub cut : ℕ → List ℕ → Option Cut
cut mark text = cut_by text (position (is_byte mark) text)

-- a byte in front of the first part
abbrev pub in_front : ℕ → List (List ℕ) → List (List ℕ)
in_front b [] = (b ∷ []) ∷ []
in_front b (p ∷ ps) = (b ∷ p) ∷ ps

-- the parts of a text between all such bytes, at least one
abbrev pub parts : ℕ → List ℕ → List (List ℕ)
parts mark [] = [] ∷ []
parts mark (b ∷ bs) = if eqb b mark then [] ∷ parts mark bs else in_front b (parts mark bs)

-- without an empty last part
abbrev pub ended : List (List ℕ) → List (List ℕ)
ended [] = []
ended ([] ∷ []) = []
ended ((b ∷ l) ∷ []) = (b ∷ l) ∷ []
ended (l ∷ m ∷ ls) = l ∷ ended (m ∷ ls)

-- The lines of a text are its parts between newlines; nothing behind the last newline is no line.
abbrev pub lines_of : List ℕ → List (List ℕ)
lines_of text = ended (parts 10 text)

-- without the empty parts
abbrev pub filled : List (List ℕ) → List (List ℕ)
filled [] = []
filled ([] ∷ ps) = filled ps
filled ((b ∷ p) ∷ ps) = (b ∷ p) ∷ filled ps

-- The words of a line are its parts between spaces that aren't empty.
abbrev pub words_of : List ℕ → List (List ℕ)
words_of line = filled (parts 32 line)

-- from space to tilde
abbrev pub is_printable : ℕ → Bool
is_printable b = nat_le 0x20 b && nat_le b 0x7E

abbrev pub is_plain : List ℕ → Bool
is_plain line = list_all is_printable line
