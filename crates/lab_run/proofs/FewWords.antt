-- Fewer than four words name no second image.
use Rattle.std.proofs.Common.{◌≡◌, ◌<◌, List, [], ◌∷◌, length, refl, arith}
use Rattle.std.specs.Prelude.{String}
use Rattle.call_verdict.specs.Words.{word_bytes}
use Rattle.lab_run.specs.Calls.{second_in}

pub no_fourth : {Z : Type 0} (ws : List (String Z)) → length ws < 4 → [] ≡ second_in (word_bytes ws)
no_fourth [] h = refl
no_fourth (a ∷ []) h = refl
no_fourth (a ∷ b ∷ []) h = refl
no_fourth (a ∷ b ∷ c ∷ []) h = refl
no_fourth (a ∷ b ∷ c ∷ d ∷ ws) h = absurd (omega (arith, h))
