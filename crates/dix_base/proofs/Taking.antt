-- What was taken from a source, piece by piece.
use Rattle.std.proofs.Common.{ℕ, ◌≡◌, ◌+◌, ◌≤◌, List, [], ◌++◌, length, take, Option, Some, None, refl, sym, ap, ◌∙◌, arith, append_assoc, append-nil, length-append}
use Rattle.std.proofs.lemmas.List.{length-take}
use Rattle.dix_base.specs.Told.{Took}
use Rattle.dix_base.specs.Reading.{IsWhole, TookAtMost, most_bytes}

pub most_is : most_bytes ≡ 4194304
unfolding most_bytes
most_is = refl

pub took_none : (x : Option (List ℕ)) → Took [] x x
took_none None = tt
took_none (Some xs) = refl

pub took_more : (all xs : List ℕ) (a b c : Option (List ℕ)) → Took all a b → Took xs b c → Took (all ++ xs) a c
took_more all xs None None None p q = tt
took_more all xs (Some a) (Some b) (Some c) p q = p ∙ ap (λ v. all ++ v) q ∙ sym (append_assoc all xs c)
took_more all xs None None (Some c) p q = q
took_more all xs None (Some b) c p q = absurd p
took_more all xs (Some a) None c p q = absurd p
took_more all xs (Some a) (Some b) None p q = q

-- what a told source held is what was read
read_is : (text held : List ℕ) (new : Option (List ℕ)) → IsWhole text (Some held) new → text ≡ held
read_is text held None w = absurd w.0
read_is text held (Some left) w =
    let none : left ≡ [] = w.1 in
    let all : held ≡ text ++ left = w.0 in
    sym (append-nil text) ∙ ap (λ v. text ++ v) (sym none) ∙ sym all

pub whole_text : (text held : List ℕ) (old new : Option (List ℕ)) → old ≡ Some held → IsWhole text old new → text ≡ held
whole_text text held old new e w = let v = rw e at w in read_is text held new v

-- a text that may be longer isn't read
pub over_long : (text all : List ℕ) (old new : Option (List ℕ)) → old ≡ Some text → Took all old new → length all ≡ most_bytes + 1 → length text ≤ most_bytes → ⊥
over_long text all None new e t l s = cc
over_long text all (Some held) None e t l s = t
over_long text all (Some held) (Some left) e t l s =
    let same : held ≡ text = cc in
    let long = ap length (sym same ∙ t) in
    let parts = length-append all left in
    omega (arith, long, parts, l, s)

-- what was taken, and the front of a piece
pub took_both : (all xs : List ℕ) (k n : ℕ) (a b c : Option (List ℕ)) → Took all a b → Took (take k xs) b c → length all + k ≤ n → TookAtMost n a c
took_both all xs k n a b c p q l =
    let e = length-append all (take k xs) in
    let m = length-take k xs in
    (all ++ take k xs, took_more all (take k xs) a b c p q, grind (arith, e, m, l))
