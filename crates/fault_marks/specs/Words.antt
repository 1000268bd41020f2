use Rattle.std.specs.Prelude.{ℕ, zero, suc, ◌+◌, eqb, if◌then◌else◌, List, [], ◌∷◌, Option, Some, None}
use Rattle.script_words.specs.Cuts.{Cut, cut, lines_of}
use Rattle.fault_marks.specs.declared.words.Span.{Span}

-- Lines of a text, and the words of a line with their places.

-- the text behind its first newline; nothing where it has none
abbrev pub behind_newline : Option Cut → List ℕ
behind_newline None = []
behind_newline (Some c) = c.after

-- the text behind so many lines
abbrev pub text_behind : ℕ → List ℕ → List ℕ
text_behind zero text = text
text_behind (suc n) text = text_behind n (behind_newline (cut 10 text))

abbrev pub first_of : List (List ℕ) → Option (List ℕ)
first_of [] = None
first_of (line ∷ lines) = Some line

-- the line of this number, from 1, where the text has it
abbrev pub line_at : ℕ → List ℕ → Option (List ℕ)
line_at zero text = None
line_at (suc n) text = first_of (lines_of (text_behind n text))

-- the words of a line of which these bytes are left, from this place on; one may have begun
abbrev pub spans_from : Option ℕ → (at : ℕ) → List ℕ → List Span
spans_from None at [] = []
spans_from (Some begin) at [] = record { begin = begin; end = at } ∷ []
spans_from None at (b ∷ bs) = if eqb b 32 then spans_from None (at + 1) bs else spans_from (Some at) (at + 1) bs
spans_from (Some begin) at (b ∷ bs) = if eqb b 32 then record { begin = begin; end = at } ∷ spans_from None (at + 1) bs else spans_from (Some begin) (at + 1) bs

-- the words of a line: the longest stretches without a space
abbrev pub spans_of : List ℕ → List Span
spans_of line = spans_from None 0 line
