-- The words of `check`, flag by flag.
use Rattle.std.proofs.Common.{ℕ, ◌≡◌, List, [], ◌∷◌, Option, Some, None, refl, sym, ap, ◌∙◌}
use Rattle.std.specs.Prelude.{String, string_bytes}
use Rattle.call_verdict.specs.Words.{word_bytes}
use Rattle.lab_run.specs.declared.check_words.CheckWords.{CheckWords}
use Rattle.lab_run.specs.CheckWords.{check_words_in, flagged}

-- words of which one was wrong stay wrong
pub none_stays : (words : List (List ℕ)) → check_words_in words None ≡ None
none_stays [] = refl
none_stays (flag ∷ []) = refl
none_stays (flag ∷ value ∷ words) = none_stays words

-- a flag and its value
pub next_flag : {Z : Type 0} (words more behind : List (String Z)) (flag value : String Z) (said : CheckWords) (x : Option CheckWords) (f v : List ℕ) → words ≡ flag ∷ more → more ≡ value ∷ behind → f ≡ string_bytes flag → v ≡ string_bytes value → x ≡ flagged said f v →
    check_words_in (word_bytes words) (Some said) ≡ check_words_in (word_bytes behind) x
next_flag words more behind flag value said x f v p q fb vb e =
    ap (λ ws. check_words_in (word_bytes ws) (Some said)) p ∙ ap (λ ws. check_words_in (string_bytes flag ∷ word_bytes ws) (Some said)) q ∙
    ap (λ b. check_words_in (word_bytes behind) (flagged said b (string_bytes value))) (sym fb) ∙ ap (λ b. check_words_in (word_bytes behind) (flagged said f b)) (sym vb) ∙ ap (check_words_in (word_bytes behind)) (sym e)
