-- One more piece of a text that is gathered.
use Rattle.std.proofs.Common.{ℕ, ◌≡◌, ◌+◌, ◌<◌, ◌≤◌, List, [], ◌∷◌, ◌++◌, length, get_or, drop, drop-cons, sym, ap, refl, ◌∙◌, add-one, append_assoc}
use Rattle.std.proofs.lemmas.List.{drop_all}
use Rattle.hex.specs.Hex.{encode_lower, encode_with}

-- a text whose lines are those so far and those of the rest of a list
pub piece_more : (old new piece rest all : List ℕ) → old ++ (piece ++ rest) ≡ all → new ≡ old ++ piece → new ++ rest ≡ all
piece_more old new piece rest all h e = ap (λ x. x ++ rest) e ∙ append_assoc old piece rest ∙ h

hex_front : (b : ℕ) (bs : List ℕ) → encode_lower (b ∷ bs) ≡ encode_lower (b ∷ []) ++ encode_lower bs
unfolding encode_with
hex_front b bs = refl

pub hex_next : (k : ℕ) (bs : List ℕ) → k < length bs → encode_lower (drop k bs) ≡ encode_lower (get_or bs k 0 ∷ []) ++ encode_lower (drop (k + 1) bs)
hex_next k bs h = ap encode_lower (drop-cons bs k 0 h ∙ ap (λ n. get_or bs k 0 ∷ drop n bs) (sym (add-one k))) ∙ hex_front (get_or bs k 0) (drop (k + 1) bs)

hex_none : encode_lower [] ≡ []
unfolding encode_with
hex_none = refl

pub hex_end : (k : ℕ) (bs : List ℕ) → length bs ≤ k → encode_lower (drop k bs) ≡ []
hex_end k bs h = ap encode_lower (drop_all k bs h) ∙ hex_none
