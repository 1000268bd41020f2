-- The bad blocks of a request, one block after another.
use Rattle.std.proofs.Common.{◌≡◌, ◌≤◌, ◌<◌, ℕ, suc, ◌+◌, List, [], ◌∷◌, ◌++◌, length, get_or, take, refl, ap, ◌∙◌, arith}
use Rattle.std.proofs.lemmas.List.{length-take-le, take_more}
use Rattle.bio_core.specs.declared.fate.Fate.{Fate}
use Rattle.bio_core.specs.declared.fate.Fate.TheVariants.{Good, Bad, Untouched}
use Rattle.stack_core.specs.Replies.{bad_from}

bad-append : (k : ℕ) (a b : List Fate) → bad_from k (a ++ b) ≡ bad_from k a ++ bad_from (k + length a) b
bad-append k [] b = let e : k + 0 ≡ k = omega arith in rw e refl
bad-append k (Good ∷ a) b = let e : k + suc (length a) ≡ suc k + length a = omega arith in rw e (bad-append (suc k) a b)
bad-append k (Bad why ∷ a) b = let e : k + suc (length a) ≡ suc k + length a = omega arith in rw e (ap (λ bs. record { k = k; why = why } ∷ bs) (bad-append (suc k) a b))
bad-append k (Untouched ∷ a) b = let e : k + suc (length a) ≡ suc k + length a = omega arith in rw e (bad-append (suc k) a b)

-- those of one block more
pub bad-more : (fates : List Fate) (k : ℕ) (d : Fate) → k < length fates → bad_from 0 (take (k + 1) fates) ≡ bad_from 0 (take k fates) ++ bad_from k (get_or fates k d ∷ [])
bad-more fates k d h =
    let l : length (take k fates) ≡ k = length-take-le k fates (omega arith) in
    let e = take_more fates k d h in
    let n : 0 + length (take k fates) ≡ k = omega arith in
    ap (bad_from 0) e ∙ bad-append 0 (take k fates) (get_or fates k d ∷ []) ∙ ap (λ j. bad_from 0 (take k fates) ++ bad_from j (get_or fates k d ∷ [])) n

-- of one block there is at most one
pub bad-one : (k : ℕ) (f : Fate) → length (bad_from k (f ∷ [])) ≤ 1
bad-one k Good = omega arith
bad-one k (Bad why) = omega arith
bad-one k Untouched = omega arith
