use Rattle.std.specs.Prelude.{ℕ, ◌≡◌, ◌≤◌, ◌+◌, List, length, Option}
use Rattle.dix_base.specs.Told.{IsAtEnd, Took}
use Rattle.dix_base.specs.declared.reading.TheConstants.{MOST_BYTES}

-- A text has at most this many bytes.
unfoldable pub most_bytes : ℕ
most_bytes = MOST_BYTES

-- The source was read to its end, and these bytes were all that was left.
abbrev pub IsWhole : List ℕ → Option (List ℕ) → Option (List ℕ) → Type 0
IsWhole text old new = Took text old new × IsAtEnd new × (length text ≤ most_bytes)

-- One byte more than a text may have was taken.
abbrev pub IsOver : Option (List ℕ) → Option (List ℕ) → Type 0
IsOver old new = (text : List ℕ) × Took text old new × (length text ≡ most_bytes + 1)

-- At most so many bytes were taken.
abbrev pub TookAtMost : ℕ → Option (List ℕ) → Option (List ℕ) → Type 0
TookAtMost most old new = (text : List ℕ) × Took text old new × (length text ≤ most)
