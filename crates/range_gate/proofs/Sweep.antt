-- Two lists of segments by page and offset, walked along together.
use Rattle.std.proofs.Common.{◌≡◌, ℕ, zero, suc, ◌+◌, ◌-◌, ◌<◌, ◌≤◌, true, false, max, eqb, ◌&&◌, ◌||◌, ◌⊎◌, inl, inr, List, [], ◌∷◌, length, get_or, drop, refl, sym, ap, ◌∙◌, arith}
use Rattle.std.specs.Prelude.{nat_lt}
use Rattle.std.proofs.Common.{drop-cons}
use Rattle.std.proofs.lemmas.List.{drop_all}
use Rattle.std.specs.List.{list_any}
use Rattle.std.proofs.lemmas.Bool.Decides.{nat_tests}
use Rattle.page_pool.specs.declared.segs.Seg.{Seg}
use Rattle.page_pool.specs.Places.{shares}
use Rattle.range_gate.specs.Prints.{NotAfter, Rises, any_shared}

-- a segment ends before another begins
abbrev Ends : Seg → Seg → Type 0
Ends s t = (s.page < t.page) ⊎ ((s.page ≡ t.page) × (s.off + s.len ≤ t.off))

apart_by : (p q a m b n : ℕ) → (p < q) ⊎ ((p ≡ q) × (a + m ≤ b)) → (eqb p q && (nat_lt (max a b - a) m && nat_lt (max a b - b) n)) ≡ false
apart_by p q a m b n (inl h) = grind (arith, nat_tests)
apart_by p q a m b n (inr h) = let k = h.1 in grind (arith, nat_tests)

other_way : (p q a m b n : ℕ) → (p < q) ⊎ ((p ≡ q) × (a + m ≤ b)) → (eqb q p && (nat_lt (max b a - b) n && nat_lt (max b a - a) m)) ≡ false
other_way p q a m b n (inl h) = grind (arith, nat_tests)
other_way p q a m b n (inr h) = let k = h.1 in grind (arith, nat_tests)

end_by : (a m b n : ℕ) → 0 < m → 0 < n → a ≤ b → (nat_lt (max a b - a) m && nat_lt (max a b - b) n) ≡ false → a + m ≤ b
end_by a m b n k l o h = grind (arith, nat_tests)

ends : (s t : Seg) → 0 < s.len → 0 < t.len → shares s t ≡ false → NotAfter s t → Ends s t
ends s t k l h (inl o) = inl o
ends s t k l h (inr o) =
    let e : eqb s.page t.page ≡ true = grind (arith, nat_tests, o.0) in
    inr (o.0, end_by s.off s.len t.off t.len k l o.1 (rw e at h))

end_other : (a m b n : ℕ) → 0 < m → 0 < n → a ≤ b → (nat_lt (max b a - b) n && nat_lt (max b a - a) m) ≡ false → a + m ≤ b
end_other a m b n k l o h = grind (arith, nat_tests)

other_ends : (s t : Seg) → 0 < s.len → 0 < t.len → shares t s ≡ false → NotAfter s t → Ends s t
other_ends s t k l h (inl o) = inl o
other_ends s t k l h (inr o) =
    let e : eqb t.page s.page ≡ true = grind (arith, nat_tests, o.0) in
    inr (o.0, end_other s.off s.len t.off t.len k l o.1 (rw e at h))

further : (s t u : Seg) → Ends s t → NotAfter t u → Ends s u
further s t u (inl h) (inl k) = inl (omega arith)
further s t u (inl h) (inr k) = inl (omega (arith, k.0))
further s t u (inr h) (inl k) = inl (omega (arith, h.0))
further s t u (inr h) (inr k) = inr (h.0 ∙ k.0, omega (arith, h.1, k.1))

shares_none : (s t : Seg) (ts : List Seg) → Ends s t → Rises (t ∷ ts) → list_any (shares s) (t ∷ ts) ≡ false
shares_none s t [] e r = rw (apart_by s.page t.page s.off s.len t.off t.len e) refl
shares_none s t (u ∷ us) e r =
    let rest = shares_none s u us (further s t u e r.1) r.2 in
    rw (apart_by s.page t.page s.off s.len t.off t.len e) rest

pub skip_left : (s : Seg) (ss : List Seg) (t : Seg) (ts : List Seg) → Rises (s ∷ ss) → Rises (t ∷ ts) → shares s t ≡ false → NotAfter s t → any_shared (s ∷ ss) (t ∷ ts) ≡ any_shared ss (t ∷ ts)
skip_left s ss t ts p q h o =
    let e = shares_none s t ts (ends s t p.0 q.0 h o) q in
    ap (λ b. b || any_shared ss (t ∷ ts)) e

skips : (t : Seg) (ts : List Seg) (s : Seg) (ss : List Seg) → Ends t s → Rises (s ∷ ss) → any_shared (s ∷ ss) (t ∷ ts) ≡ any_shared (s ∷ ss) ts
skips t ts s [] e r = rw (other_way t.page s.page t.off t.len s.off s.len e) refl
skips t ts s (u ∷ us) e r =
    let rest = skips t ts u us (further t s u e r.1) r.2 in
    rw (other_way t.page s.page t.off t.len s.off s.len e) (ap (λ b. list_any (shares s) ts || b) rest)

pub skip_right : (s : Seg) (ss : List Seg) (t : Seg) (ts : List Seg) → Rises (s ∷ ss) → Rises (t ∷ ts) → shares s t ≡ false → NotAfter t s → any_shared (s ∷ ss) (t ∷ ts) ≡ any_shared (s ∷ ss) ts
skip_right s ss t ts p q h o = skips t ts s ss (other_ends t s q.0 p.0 h o) p

pub shared-nil : (ss : List Seg) → any_shared ss [] ≡ false
shared-nil [] = refl
shared-nil (s ∷ ss) = shared-nil ss

pub rises-drop : (i : ℕ) (ss : List Seg) → Rises ss → Rises (drop i ss)
rises-drop zero ss r = r
rises-drop (suc i) [] r = tt
rises-drop (suc i) (s ∷ ss) r = rises-drop i ss r.2

-- one step on in the first list
pub on_left : (a b : List Seg) (i k : ℕ) (d e : Seg) → i < length a → k < length b → Rises a → Rises b → shares (get_or a i d) (get_or b k e) ≡ false → NotAfter (get_or a i d) (get_or b k e) →
    any_shared (drop (i + 1) a) (drop k b) ≡ any_shared (drop i a) (drop k b)
on_left a b i k d e l m p q h o =
    let x = drop-cons a i d l in
    let y = drop-cons b k e m in
    let n : i + 1 ≡ suc i = omega arith in
    let r = rises-drop i a p in
    let s = rises-drop k b q in
    let z = skip_left (get_or a i d) (drop (suc i) a) (get_or b k e) (drop (suc k) b) (rw x at r) (rw y at s) h o in
    ap (λ v. any_shared (drop v a) (drop k b)) n ∙ ap (any_shared (drop (suc i) a)) y ∙ sym z ∙ ap (λ v. any_shared v (get_or b k e ∷ drop (suc k) b)) (sym x) ∙ ap (any_shared (drop i a)) (sym y)

-- one step on in the second list
pub on_right : (a b : List Seg) (i k : ℕ) (d e : Seg) → i < length a → k < length b → Rises a → Rises b → shares (get_or a i d) (get_or b k e) ≡ false → NotAfter (get_or b k e) (get_or a i d) →
    any_shared (drop i a) (drop (k + 1) b) ≡ any_shared (drop i a) (drop k b)
on_right a b i k d e l m p q h o =
    let x = drop-cons a i d l in
    let y = drop-cons b k e m in
    let n : k + 1 ≡ suc k = omega arith in
    let r = rises-drop i a p in
    let s = rises-drop k b q in
    let z = skip_right (get_or a i d) (drop (suc i) a) (get_or b k e) (drop (suc k) b) (rw x at r) (rw y at s) h o in
    ap (λ v. any_shared (drop i a) (drop v b)) n ∙ ap (λ v. any_shared v (drop (suc k) b)) x ∙ sym z ∙ ap (λ v. any_shared v (get_or b k e ∷ drop (suc k) b)) (sym x) ∙ ap (any_shared (drop i a)) (sym y)

-- nothing is left of the second list
pub past_right : (a b : List Seg) (k : ℕ) → length b ≤ k → any_shared a (drop k b) ≡ false
past_right a b k h = ap (any_shared a) (drop_all k b h) ∙ shared-nil a
