-- One page more of a script of its own.
use Rattle.std.proofs.Common.{◌≡◌, ◌<◌, ◌≤◌, ℕ, zero, suc, ◌+◌, ◌-◌, List, [], ◌∷◌, ◌++◌, length, take, drop, min, sym, ap, ◌∙◌, arith}
use Rattle.std.proofs.lemmas.List.{append_assoc, drop_all, take_min}
use Rattle.page_pool.specs.declared.segs.Seg.{Seg}
use Rattle.page_pool.specs.Places.{total}
use Rattle.stack_ops.specs.declared.op.Op.{Op}
use Rattle.stack_ops.specs.declared.op.Op.TheVariants.{Put}
use Rattle.mirror_volume.specs.Inner.{page_segs, puts}

next-segs : (page left : ℕ) (end : ℕ) → page < end → page_segs page (end - page) left ≡ record { page = page; off = 0; len = min 4096 left } ∷ page_segs (page + 1) (end - (page + 1)) (left - 4096)
next-segs page left end l =
    let e : end - page ≡ suc (end - (page + 1)) = omega (arith, l) in
    let n : suc page ≡ page + 1 = omega arith in
    ap (λ k. page_segs page k left) e ∙ ap (λ p. record { page = page; off = 0; len = min 4096 left } ∷ page_segs p (end - (page + 1)) (left - 4096)) n

pub more-segs : (before after : List Seg) (page left end m : ℕ) (all : List Seg) → page < end → m ≡ min left 4096 → after ≡ before ++ (record { page = page; off = 0; len = m } ∷ []) →
    before ++ page_segs page (end - page) left ≡ all → after ++ page_segs (page + 1) (end - (page + 1)) (left - m) ≡ all
more-segs before after page left end m all l e h k =
    let s : Seg = record { page = page; off = 0; len = m } in
    let a : min 4096 left ≡ m = omega (arith, e) in
    let b : left - 4096 ≡ left - m = omega (arith, e) in
    ap (λ xs. xs ++ page_segs (page + 1) (end - (page + 1)) (left - m)) h
    ∙ append_assoc before (s ∷ []) (page_segs (page + 1) (end - (page + 1)) (left - m))
    ∙ ap (λ rest. before ++ rest) (sym (next-segs page left end l ∙ ap (λ k. record { page = page; off = 0; len = k } ∷ page_segs (page + 1) (end - (page + 1)) (left - 4096)) a ∙ ap (λ k. s ∷ page_segs (page + 1) (end - (page + 1)) k) b))
    ∙ k

total-one : (before : List Seg) (s : Seg) → total (before ++ (s ∷ [])) ≡ total before + s.len
total-one [] s = omega arith
total-one (x ∷ before) s = let h = total-one before s in omega (arith, h)

pub total-more : (before after : List Seg) (s : Seg) (left bytes : ℕ) → s.len ≤ left → after ≡ before ++ (s ∷ []) → total before + left ≡ bytes → total after + (left - s.len) ≡ bytes
total-more before after s left bytes l e h =
    let t : total after ≡ total before + s.len = ap total e ∙ total-one before s in
    omega (arith, t, h, l)

front-min : (n : ℕ) (xs : List ℕ) → take (min (length xs) n) xs ≡ take n xs
front-min n xs = let e : min (length xs) n ≡ min n (length xs) = omega arith in ap (λ k. take k xs) e ∙ take_min n xs

back-min : (n : ℕ) (xs : List ℕ) → drop (min (length xs) n) xs ≡ drop n xs
back-min n [] = let e : min 0 n ≡ 0 = omega arith in ap (λ k. drop k []) e ∙ sym (drop_all n [] (omega arith))
back-min zero (x ∷ xs) = let e : min (suc (length xs)) 0 ≡ 0 = omega arith in ap (λ k. drop k (x ∷ xs)) e
back-min (suc n) (x ∷ xs) = let e : min (suc (length xs)) (suc n) ≡ suc (min (length xs) n) = omega arith in ap (λ k. drop k (x ∷ xs)) e ∙ back-min n xs

next-puts : (page : ℕ) (rest : List ℕ) (end : ℕ) → page < end → puts page (end - page) rest ≡ Put page 0 (take 4096 rest) ∷ puts (page + 1) (end - (page + 1)) (drop 4096 rest)
next-puts page rest end l =
    let e : end - page ≡ suc (end - (page + 1)) = omega (arith, l) in
    let n : suc page ≡ page + 1 = omega arith in
    ap (λ k. puts page k rest) e ∙ ap (λ p. Put page 0 (take 4096 rest) ∷ puts p (end - (page + 1)) (drop 4096 rest)) n

pub more-puts : (before after : List Op) (page : ℕ) (rest front back : List ℕ) (end : ℕ) (all : List Op) → page < end → front ≡ take (min (length rest) 4096) rest → back ≡ drop (min (length rest) 4096) rest →
    after ≡ before ++ (Put page 0 front ∷ []) → before ++ puts page (end - page) rest ≡ all → after ++ puts (page + 1) (end - (page + 1)) back ≡ all
more-puts before after page rest front back end all l f b e h =
    ap (λ xs. xs ++ puts (page + 1) (end - (page + 1)) back) e
    ∙ append_assoc before (Put page 0 front ∷ []) (puts (page + 1) (end - (page + 1)) back)
    ∙ ap (λ xs. before ++ xs) (sym (next-puts page rest end l
    ∙ ap (λ xs. Put page 0 xs ∷ puts (page + 1) (end - (page + 1)) (drop 4096 rest)) (sym (f ∙ front-min 4096 rest))
    ∙ ap (λ xs. Put page 0 front ∷ puts (page + 1) (end - (page + 1)) xs) (sym (b ∙ back-min 4096 rest))))
    ∙ h
