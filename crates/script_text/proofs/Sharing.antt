-- whether any two of a list share doesn't depend on the list's order: it is told by the number of pairs that do
use Rattle.std.proofs.Common.{ℕ, suc, ◌≡◌, ◌+◌, ◌*◌, ◌≤◌, ◌||◌, Bool, true, false, ltb, List, [], ◌∷◌, length, get_or, drop, subst, sum_by, refl, sym, ap, ◌∙◌, arith, zero-add}
use Rattle.std.specs.List.{All, list_any}
use Rattle.std.specs.List.Sorted.{IsPermutation}
use Rattle.std.proofs.lemmas.Bool.Decides.{nat_tests}
use Rattle.std.proofs.lemmas.List.Sorted.{All-permutation, length_permutation, sum_by-IsPermutation}
use Rattle.std.proofs.lemmas.List.Sums.{sum_by-cons}
use Rattle.page_pool.specs.declared.segs.Seg.{Seg}
use Rattle.page_pool.specs.Places.{shares}
use Rattle.page_pool.proofs.Sharing.{exact}
use Rattle.stack_ops.specs.Passed.{IsSound, Rises}
use Rattle.stack_ops.proofs.Passed.{skip_left}
use Rattle.script_text.specs.Segments.{any_share}
use Rattle.small_laws.proofs.Tests.{same_test}

abbrev one : Bool → ℕ
one true = 1
one false = 0

abbrev row : Seg → List Seg → ℕ
row s [] = 0
row s (t ∷ ts) = one (shares s t) + row s ts

abbrev pairs : List Seg → ℕ
pairs [] = 0
pairs (s ∷ ss) = row s ss + pairs ss

abbrev rows : List Seg → List Seg → ℕ
rows ts [] = 0
rows ts (s ∷ ss) = row s ts + rows ts ss

shares_both : (s t : Seg) → shares s t ≡ shares t s
shares_both s t =
    let p = exact s t (shares s t) refl in
    let q = exact t s (shares t s) refl in
    same_test (shares s t) (shares t s) (λ h. let o = p.0 h in q.1 (o.0, o.2, o.1)) (λ h. let o = q.0 h in p.1 (o.0, o.2, o.1))

shares_itself : (s : Seg) → IsSound s → shares s s ≡ true
shares_itself s h = let n = h.0 in grind (arith, nat_tests)

rows_more : (t : Seg) (ts ss : List Seg) → rows (t ∷ ts) ss ≡ row t ss + rows ts ss
rows_more t ts [] = refl
rows_more t ts (u ∷ ss) = let r = rows_more t ts ss in let e = ap one (shares_both u t) in omega (arith, r, e)

all_rows : (xs : List Seg) → All IsSound xs → rows xs xs ≡ length xs + 2 * pairs xs
all_rows [] a = refl
all_rows (s ∷ ss) a =
    let r = all_rows ss (λ k d l. a (suc k) d (omega (arith, l))) in
    let more = rows_more s ss ss in
    let e = ap one (shares_itself s (a 0 s (omega arith))) in
    omega (arith, r, more, e)

row_sum : (s : Seg) (ts : List Seg) → row s ts ≡ sum_by (λ t. one (shares s t)) ts
row_sum s [] = refl
row_sum s (t ∷ ts) = let r = row_sum s ts in let c = sum_by-cons (λ u. one (shares s u)) t ts in omega (arith, r, c)

rows_sum : (ts ss : List Seg) → rows ts ss ≡ sum_by (λ s. row s ts) ss
rows_sum ts [] = refl
rows_sum ts (s ∷ ss) = let r = rows_sum ts ss in let c = sum_by-cons (λ u. row u ts) s ss in omega (arith, r, c)

same_row : (s : Seg) (ts us : List Seg) → IsPermutation ts us → row s us ≡ row s ts
same_row s ts us p = row_sum s us ∙ sum_by-IsPermutation (λ t. one (shares s t)) ts us p ∙ sym (row_sum s ts)

same_rows : (ts us ss : List Seg) → IsPermutation ts us → rows us ss ≡ rows ts ss
same_rows ts us [] p = refl
same_rows ts us (s ∷ ss) p = let r = same_rows ts us ss p in let e = same_row s ts us p in omega (arith, r, e)

same_pairs : (xs ys : List Seg) → All IsSound xs → IsPermutation xs ys → pairs xs ≡ pairs ys
same_pairs xs ys a p =
    let x = all_rows xs a in
    let y = all_rows ys (All-permutation IsSound xs ys p a) in
    let n = length_permutation xs ys p in
    let q = rows_sum xs ys ∙ sum_by-IsPermutation (λ s. row s xs) xs ys p ∙ sym (rows_sum xs xs) in
    let r = same_rows xs ys ys p in
    omega (arith, x, y, n, q, r)

any_step : (b : Bool) (r : ℕ) → b || ltb 0 r ≡ ltb 0 (one b + r)
any_step true r = grind (arith, nat_tests)
any_step false r = ap (ltb 0) (sym (zero-add r))

any_row : (s : Seg) (ts : List Seg) → list_any (shares s) ts ≡ ltb 0 (row s ts)
any_row s [] = refl
any_row s (t ∷ ts) = ap (λ b. shares s t || b) (any_row s ts) ∙ any_step (shares s t) (row s ts)

or_sum : (a b : ℕ) → ltb 0 a || ltb 0 b ≡ ltb 0 (a + b)
or_sum a b = grind (arith, nat_tests)

any_pairs : (xs : List Seg) → any_share xs ≡ ltb 0 (pairs xs)
any_pairs [] = refl
any_pairs (s ∷ ss) = ap (λ b. b || any_share ss) (any_row s ss) ∙ ap (λ b. ltb 0 (row s ss) || b) (any_pairs ss) ∙ or_sum (row s ss) (pairs ss)

pub same_share : (xs ys : List Seg) → All IsSound xs → IsPermutation xs ys → any_share ys ≡ any_share xs
same_share xs ys a p = any_pairs ys ∙ ap (ltb 0) (sym (same_pairs xs ys a p)) ∙ sym (any_pairs xs)

or_none : (a : Bool) → a || false ≡ false → a ≡ false
or_none true h = h
or_none false h = refl

-- along sorted segments the first shares with none but the next
pub next_share : (s t : Seg) (ts : List Seg) → Rises (s ∷ t ∷ ts) → shares s t ≡ false → any_share (s ∷ t ∷ ts) ≡ any_share (t ∷ ts)
next_share s t ts r h =
    let none = or_none (list_any (shares s) (t ∷ ts)) (skip_left s [] t ts (r.0, tt, tt) r.2 h r.1) in
    ap (λ b. b || any_share (t ∷ ts)) none

pub rises_on : (s : Seg) (ts : List Seg) → Rises (s ∷ ts) → Rises ts
rises_on s ts r = r.2

pub one_alone : (xs : List Seg) → length xs ≤ 1 → any_share xs ≡ false
one_alone [] h = refl
one_alone (s ∷ []) h = refl
one_alone (s ∷ t ∷ ts) h = absurd (omega arith)

-- a step along sorted segments, of which the first two share nothing
pub record Step (xs more : List Seg) : Type 0 where
  pub rises : Rises more
  pub share : any_share more ≡ any_share xs

pub step : (xs more : List Seg) (d e : Seg) → 2 ≤ length xs → Rises xs → shares (get_or xs 0 d) (get_or xs 1 e) ≡ false → more ≡ drop 1 xs → Step xs more
step [] more d e n r h m = absurd (omega arith)
step (s ∷ []) more d e n r h m = absurd (omega arith)
step (s ∷ t ∷ ts) more d e n r h m = record {
  rises = subst Rises (sym m) (rises_on s (t ∷ ts) r);
  share = ap any_share m ∙ sym (next_share s t ts r h);
}
