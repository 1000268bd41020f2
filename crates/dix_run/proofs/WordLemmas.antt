-- Words that are too many or too few for a command.
use Rattle.std.proofs.Common.{◌≡◌, false, List, [], ◌∷◌, length, None, refl}
use Rattle.std.specs.Prelude.{String}
use Rattle.call_verdict.specs.Words.{word_bytes}
use Rattle.dix_run.specs.Grammar.{big_of, is_one_name, modes_of}

-- other than one word, and other than two
pub not_one : {Z : Type 0} (ws : List (String Z)) → (length ws ≡ 1 → ⊥) → modes_of (word_bytes ws) ≡ None
not_one [] h = refl
not_one (a ∷ []) h = absurd (h refl)
not_one (a ∷ b ∷ ws) h = refl

pub not_two : {Z : Type 0} (ws : List (String Z)) → (length ws ≡ 2 → ⊥) → big_of (word_bytes ws) ≡ None
not_two [] h = refl
not_two (a ∷ []) h = refl
not_two (a ∷ b ∷ []) h = absurd (h refl)
not_two (a ∷ b ∷ c ∷ ws) h = refl

pub not_one_name : {Z : Type 0} (ws : List (String Z)) → (length ws ≡ 1 → ⊥) → is_one_name (word_bytes ws) ≡ false
not_one_name [] h = refl
not_one_name (a ∷ []) h = absurd (h refl)
not_one_name (a ∷ b ∷ ws) h = refl
