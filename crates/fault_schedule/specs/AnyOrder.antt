use Rattle.std.specs.Prelude.{ℕ, ◌≡◌, ◌+◌, List, [], ◌∷◌, ◌++◌, bit_xor}
use Rattle.std.proofs.Common.{refl, sym, ap, ◌∙◌}
use Rattle.std.proofs.lemmas.Nat.{xor_comm}
use Rattle.std.specs.Int.Bits.{xor_assoc}
use Rattle.fault_schedule.specs.declared.Label.{Label}
use Rattle.fault_schedule.specs.declared.fault.Crossing.{Crossing}
use Rattle.fault_schedule.specs.declared.fault.FaultLine.{FaultLine}
use Rattle.fault_schedule.specs.Altered.{altered, named, named_by, xored_from}

-- A line alters the same bytes wherever it stands among the lines, so their order makes no difference to a block.

front-swap : (a b c : ℕ) → bit_xor a (bit_xor b c) ≡ bit_xor b (bit_xor a c)
front-swap a b c = sym (xor_assoc a b c) ∙ (ap (λ t. bit_xor t c) (xor_comm a b) ∙ xor_assoc b a c)

named-anywhere : (line : FaultLine) (before after : List FaultLine) (at : Crossing) (label : Label) (i : ℕ)
    → named (before ++ line ∷ after) at label i ≡ bit_xor (named_by line at label i) (named (before ++ after) at label i)
named-anywhere line [] after at label i = refl
named-anywhere line (b ∷ before) after at label i = rw (named-anywhere line before after at label i) (front-swap (named_by b at label i) (named_by line at label i) _)

pub xored-same : (f g : ℕ → ℕ) (i : ℕ) (xs : List ℕ) → ((k : ℕ) → f k ≡ g k) → xored_from f i xs ≡ xored_from g i xs
xored-same f g i [] same = refl
xored-same f g i (x ∷ xs) same = rw (same i) (ap (λ t. bit_xor x (g i) ∷ t) (xored-same f g (i + 1) xs same))

pub acts_anywhere : (line : FaultLine) (before after : List FaultLine) (at : Crossing) (label : Label) (block : List ℕ)
    → altered (before ++ line ∷ after) at label block ≡ altered (line ∷ (before ++ after)) at label block
acts_anywhere line before after at label block = xored-same _ _ 0 block (named-anywhere line before after at label)
