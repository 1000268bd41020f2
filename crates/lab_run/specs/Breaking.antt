use Rattle.std.specs.Prelude.{ℕ, List, take, Option, Some, None}
use Rattle.call_verdict.specs.declared.status.Status.{Status}

-- A text that ends in its middle, behind so many bytes, or is whole.

-- It ends in its middle only for this reason.
abbrev pub EndsBy : (reason : Type 0) → (broken : Option ℕ) → Type 0
EndsBy reason None = Unit {0}
EndsBy reason (Some n) = reason

-- what is written of it
abbrev pub cut_text : (broken : Option ℕ) → List ℕ → List ℕ
cut_text None text = text
cut_text (Some n) text = take n text

-- the status: this one where it ends in its middle, and that one where all was done
abbrev pub cut_status : (broken : Option ℕ) → (cut done : Status) → Status
cut_status None cut done = done
cut_status (Some n) cut done = cut
