-- What a list holds when it, or a part of it, was lent and is back.
use Rattle.std.proofs.Common.{ℕ, ◌≡◌, ◌+◌, ◌-◌, ◌≤◌, List, ◌++◌, ap, drop, length, take, ◌∙◌, arith}
use Rattle.std.proofs.lemmas.List.{drop-drop, length-append, length-drop, length-take-le, take_at}
use Rattle.mirror_volume.specs.Asked.{pasted}

-- all of it
pub written-back : {X : Type 0} (n : ℕ) (xs was : List X) → length xs ≡ n → take n (xs ++ drop (length xs) was) ≡ xs
written-back n xs was e = take_at xs (drop (length xs) was) n e

-- those from one place on
pub pasted-back : {X : Type 0} (at k n : ℕ) (cells items part : List X) → cells ≡ items → n ≡ length items → at + k ≤ length items → length part ≡ length (take (at + k - at) (drop at cells))
    → take n (take at cells ++ (part ++ drop (at + k - at) (drop at cells)) ++ drop (length (take at cells ++ (part ++ drop (at + k - at) (drop at cells)))) items) ≡ pasted at part items
pasted-back {X} at k n cells items part same long inside e =
    let l = length-drop at items in
    let m : length part ≡ at + k - at = e ∙ ap (λ (xs : List X). length (take (at + k - at) (drop at xs))) same ∙ length-take-le (at + k - at) (drop at items) (omega (arith, l, inside)) in
    let ends : at + (at + k - at) ≡ at + length part = omega (arith, m) in
    let rest : drop (at + k - at) (drop at cells) ≡ drop (at + length part) items = ap (λ (xs : List X). drop (at + k - at) (drop at xs)) same ∙ drop-drop (at + k - at) at items ∙ ap (λ j. drop j items) ends in
    let is : take at cells ++ (part ++ drop (at + k - at) (drop at cells)) ≡ pasted at part items = λ i. take at (same i) ++ (part ++ rest i) in
    let front = length-take-le at items (omega (arith, inside)) in
    let behind = length-drop (at + length part) items in
    let tail = length-append part (drop (at + length part) items) in
    let all = length-append (take at items) (part ++ drop (at + length part) items) in
    let whole : length (pasted at part items) ≡ n = omega (arith, all, tail, behind, front, m, inside, long) in
    ap (λ (xs : List X). take n (xs ++ drop (length xs) items)) is ∙ written-back n (pasted at part items) items whole
