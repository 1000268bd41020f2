-- What a request replies, by what became of its blocks.
use Rattle.std.proofs.Common.{◌≡◌, ◌≤◌, ℕ, zero, suc, ◌+◌, List, [], ◌∷◌, length, get_or, take, drop, map, refl, sym, ap, ◌∙◌, arith, drop-cons}
use Rattle.bio_core.specs.declared.fate.Fate.{Fate}
use Rattle.bio_core.specs.declared.fate.Fate.TheVariants.{Good, Bad, Untouched}
use Rattle.stack_ops.specs.declared.reply.BadBlock.{BadBlock}
use Rattle.stack_walk_laws.specs.Passed.{bad_from as walk_bad, whole_or_bad, each_from}
use Rattle.stack_walk_laws.specs.Moved.{why_of}
use Rattle.stack_core.specs.Replies.{bad_from, whole_or}
use Rattle.stack_core.specs.Walking.{why_in}

bad_same : (k : ℕ) (fates : List Fate) → bad_from k fates ≡ walk_bad k (map why_of fates)
bad_same k [] = refl
bad_same k (Good ∷ fs) = bad_same (suc k) fs
bad_same k (Bad why ∷ fs) = ap (λ l. record { k = k; why = why } ∷ l) (bad_same (suc k) fs)
bad_same k (Untouched ∷ fs) = bad_same (suc k) fs

or_same : (bs : List BadBlock) → whole_or bs ≡ whole_or_bad bs
or_same [] = refl
or_same (b ∷ bs) = refl

slice_same : (held : List Fate) (start k n : ℕ) → start + (k + n) ≤ length held → map why_of (take n (drop (start + k) held)) ≡ each_from k n (λ j. why_of (get_or held (start + j) Untouched))
slice_same held start k zero h = refl
slice_same held start k (suc n) h =
    let e = drop-cons held (start + k) Untouched (omega arith) in
    let z : start + suc k ≡ suc (start + k) = omega arith in
    let more = slice_same held start (suc k) n (omega arith) in
    rw e (ap (λ l. why_of (get_or held (start + k) Untouched) ∷ l) (ap (λ i. map why_of (take n (drop i held))) (sym z) ∙ more))

pub listed_as : (starts : List ℕ) (held : List Fate) (i n : ℕ) → get_or starts i 0 + n ≤ length held → whole_or (bad_from 0 (take n (drop (get_or starts i 0) held))) ≡ whole_or_bad (walk_bad 0 (each_from 0 n (why_in starts held i)))
listed_as starts held i n h =
    let z : get_or starts i 0 + 0 ≡ get_or starts i 0 = omega arith in
    let s = slice_same held (get_or starts i 0) 0 n (omega arith) in
    or_same (bad_from 0 (take n (drop (get_or starts i 0) held))) ∙ ap whole_or_bad (bad_same 0 (take n (drop (get_or starts i 0) held)) ∙ ap (walk_bad 0) (ap (λ x. map why_of (take n (drop x held))) (sym z) ∙ s))
