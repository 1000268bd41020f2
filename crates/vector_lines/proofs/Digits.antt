-- The digits of bytes, part by part.
use Rattle.std.proofs.Common.{ℕ, ◌≡◌, ◌≤◌, List, [], ◌∷◌, ◌++◌, codes, length, refl, arith}
use Rattle.hex.specs.Hex.{encode_lower}
use Rattle.vector_lines.specs.Printed.{word_text}

-- the word of some bytes
pub word_of_some : (xs : List ℕ) → 1 ≤ length xs → codes " " ++ encode_lower xs ≡ word_text xs
word_of_some [] h = absurd (omega arith)
word_of_some (x ∷ xs) h = refl
