-- The text of a scrub, line by line.
use Rattle.std.proofs.Common.{ℕ, ◌≡◌, ◌+◌, ◌<◌, List, [], ◌∷◌, ◌++◌, length, get_or, take, sym, ap, ◌∙◌, append-nil, append_assoc}
use Rattle.std.proofs.lemmas.List.{take_more}
use Rattle.pi_scrub.specs.declared.found.Found.{Found}
use Rattle.dix_run.specs.ScrubText.{found_line, found_lines}

pub lines_append : (xs : List Found) (x : Found) → found_lines (xs ++ (x ∷ [])) ≡ found_lines xs ++ found_line x
lines_append [] x = append-nil (found_line x)
lines_append (y ∷ xs) x = ap (λ (v : List ℕ). found_line y ++ v) (lines_append xs x) ∙ sym (append_assoc (found_line y) (found_lines xs) (found_line x))

lines_at : (xs : List Found) (i : ℕ) (d : Found) → i < length xs → found_lines (take (i + 1) xs) ≡ found_lines (take i xs) ++ found_line (get_or xs i d)
lines_at xs i d h = ap found_lines (take_more xs i d h) ∙ lines_append (take i xs) (get_or xs i d)

-- one line more behind the first
pub text_more : (first text new line : List ℕ) (xs : List Found) (i : ℕ) (d : Found) → i < length xs → text ≡ first ++ found_lines (take i xs) → new ≡ text ++ line → line ≡ found_line (get_or xs i d) → new ≡ first ++ found_lines (take (i + 1) xs)
text_more first text new line xs i d h t n l =
    n ∙ ap (λ (v : List ℕ). v ++ line) t ∙ append_assoc first (found_lines (take i xs)) line ∙ ap (λ (v : List ℕ). first ++ (found_lines (take i xs) ++ v)) l ∙ ap (λ (v : List ℕ). first ++ v) (sym (lines_at xs i d h))
