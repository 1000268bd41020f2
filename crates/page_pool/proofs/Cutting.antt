-- Segments behind a number of bytes, and up to one.
use Rattle.std.proofs.Common.{◌≡◌, ℕ, zero, suc, ◌+◌, ◌-◌, ◌≤◌, ◌<◌, min, true, false, List, [], ◌∷◌, ◌++◌, length, take, drop, get_or, drop-cons, add-one, refl, sym, ap, ◌∙◌, ◌⊎◌, ◌≢◌, inl, inr, arith}
use Rattle.std.specs.Prelude.{nat_lt}
use Rattle.std.proofs.lemmas.Bool.{cases_lt}
use Rattle.std.proofs.lemmas.Bool.Decides.{leb_tells}
use Rattle.std.proofs.lemmas.List.{length-drop, append-nil, take_at, drop_at}
use Rattle.page_pool.specs.declared.segs.Seg.{Seg}
use Rattle.page_pool.specs.Places.{PageByte, run, places_of, places_in, range_of, total}
use Rattle.page_pool.specs.Cuts.{front, behind, past, upto, cut}
use Rattle.page_pool.specs.Pages.{AllLieIn}
use Rattle.page_pool.specs.Walking.{Took}
use Rattle.page_pool.proofs.Placing.{length-run, length-places_in, run-append, step_over, takes}

lt_or : (a b : ℕ) → ((nat_lt a b ≡ true) × (a < b)) ⊎ ((nat_lt a b ≡ false) × (b ≤ a))
lt_or a b = elim (leb_tells (suc a) b) [ inl h ↦ let l = h.1 in inl (h.0, omega arith) | inr h ↦ let l = h.1 in inr (h.0, omega arith) ]

pub past-here : (at : ℕ) (s : Seg) (ss : List Seg) → at < s.len → past at (s ∷ ss) ≡ behind at s ∷ ss
past-here at s ss h = elim (lt_or at s.len) [ inl l ↦ rw l.0 refl | inr l ↦ absurd (let k = l.1 in omega arith) ]

pub past-over : (at : ℕ) (s : Seg) (ss : List Seg) → s.len ≤ at → past at (s ∷ ss) ≡ past (at - s.len) ss
past-over at s ss h = elim (lt_or at s.len) [ inl l ↦ absurd (let k = l.1 in omega arith) | inr l ↦ rw l.0 refl ]

pub upto-some : (most : ℕ) (s : Seg) (ss : List Seg) → 0 < min s.len most → upto most (s ∷ ss) ≡ front most s ∷ upto (most - s.len) ss
upto-some most s ss h = elim (lt_or 0 (min s.len most)) [ inl l ↦ rw l.0 refl | inr l ↦ absurd (let k = l.1 in omega arith) ]

pub upto-none : (most : ℕ) (s : Seg) (ss : List Seg) → min s.len most ≡ 0 → upto most (s ∷ ss) ≡ upto (most - s.len) ss
upto-none most s ss h = elim (lt_or 0 (min s.len most)) [ inl l ↦ absurd (let k = l.1 in omega arith) | inr l ↦ rw l.0 refl ]

abbrev seg_of : ℕ → ℕ → ℕ → Seg
seg_of page off len = record { page = page; off = off; len = len }

same_seg : (page a b m n : ℕ) → a ≡ b → m ≡ n → seg_of page a m ≡ seg_of page b n
same_seg page a b m n e f = ap (λ i. seg_of page i m) e ∙ ap (seg_of page b) f

-- two steps are one

pub past-past : (b a : ℕ) (ss : List Seg) → past b (past a ss) ≡ past (a + b) ss
past-past b a [] = refl
past-past b a (s ∷ ss) = elim (cases_lt a s.len) [
  | inl h ↦ ap (past b) (past-here a s ss h) ∙ elim (cases_lt b (s.len - a)) [
    | inl k ↦ past-here b (behind a s) ss k ∙ (ap (λ t. t ∷ ss) (same_seg s.page (s.off + a + b) (s.off + (a + b)) (s.len - a - b) (s.len - (a + b)) (omega arith) (omega arith)) ∙ sym (past-here (a + b) s ss (omega arith)))
    | inr k ↦ past-over b (behind a s) ss k ∙ (ap (λ n. past n ss) (let e : b - (s.len - a) ≡ a + b - s.len = omega arith in e) ∙ sym (past-over (a + b) s ss (omega arith)))
  ]
  | inr h ↦ ap (past b) (past-over a s ss h) ∙ (past-past b (a - s.len) ss ∙ (ap (λ n. past n ss) (let e : a - s.len + b ≡ a + b - s.len = omega arith in e) ∙ sym (past-over (a + b) s ss (omega arith))))
]

pub upto-0 : (ss : List Seg) → upto 0 ss ≡ []
upto-0 [] = refl
upto-0 (s ∷ ss) = upto-none 0 s ss (omega arith) ∙ (ap (λ n. upto n ss) (let e : 0 - s.len ≡ 0 = omega arith in e) ∙ upto-0 ss)

-- leading segments without bytes count for nothing
pub upto-past_0 : (most : ℕ) (ss : List Seg) → upto most (past 0 ss) ≡ upto most ss
upto-past_0 most [] = refl
upto-past_0 most (s ∷ ss) = elim (cases_lt 0 s.len) [
  | inl h ↦ ap (upto most) (past-here 0 s ss h ∙ ap (λ t. t ∷ ss) (same_seg s.page (s.off + 0) s.off (s.len - 0) s.len (omega arith) (omega arith)))
  | inr h ↦ ap (upto most) (past-over 0 s ss h ∙ ap (λ n. past n ss) (let e : 0 - s.len ≡ 0 = omega arith in e))
      ∙ (upto-past_0 most ss ∙ sym (upto-none most s ss (omega arith) ∙ ap (λ n. upto n ss) (let e : most - s.len ≡ most = omega arith in e)))
]

-- of which nothing can be taken, nothing with bytes is ahead
pub past-none : (most : ℕ) (ss : List Seg) → upto most ss ≡ [] → past most ss ≡ past 0 ss
past-none most [] h = refl
past-none most (s ∷ ss) h = elim (cases_lt 0 (min s.len most)) [
  | inl l ↦ absurd (some (sym (upto-some most s ss l) ∙ h))
  | inr l ↦ elim (cases_lt 0 s.len) [
    | inl k ↦ ap (λ n. past n (s ∷ ss)) (let e : most ≡ 0 = omega arith in e)
    | inr k ↦
        let e : most - s.len ≡ most = omega arith in
        past-over most s ss (omega arith) ∙ (ap (λ n. past n ss) e ∙ (past-none most ss (ap (λ n. upto n ss) (sym e) ∙ (sym (upto-none most s ss (omega arith)) ∙ h))
        ∙ sym (past-over 0 s ss k ∙ ap (λ n. past n ss) (let z : 0 - s.len ≡ 0 = omega arith in z))))
  ]
]
  where
    some : {t : Seg} {ts : List Seg} → t ∷ ts ≡ [] → ⊥
    some e = cc

-- their places

pub places-past : (at : ℕ) (ss : List Seg) → places_in (past at ss) ≡ drop at (places_in ss)
places-past zero [] = refl
places-past (suc at) [] = refl
places-past at (s ∷ ss) = elim (cases_lt at s.len) [
  | inl h ↦
      let n : at + (s.len - at) ≡ s.len = omega arith in
      let rest : drop (at + (s.len - at)) (places_of s ++ places_in ss) ≡ places_in ss = drop_at (places_of s) (places_in ss) (at + (s.len - at)) (length-run s.page s.off s.len ∙ sym n) in
      ap places_in (past-here at s ss h) ∙ sym (takes s.page s.off s.len at (s.len - at) (places_in ss) (omega arith) ∙ ap (λ l. run s.page (s.off + at) (s.len - at) ++ l) rest)
  | inr h ↦ ap places_in (past-over at s ss h) ∙ (places-past (at - s.len) ss ∙ step_over s ss at h)
]

pub take-front : {X : Type 0} (a b : List X) (n : ℕ) → length a ≤ n → take n (a ++ b) ≡ a ++ take (n - length a) b
take-front [] b n h = ap (λ k. take k b) (let e : n ≡ n - 0 = omega arith in e)
take-front (x ∷ a) b zero h = absurd (omega arith)
take-front (x ∷ a) b (suc n) h = ap (λ l. x ∷ l) (take-front a b n (omega arith)) ∙ ap (λ k. x ∷ (a ++ take k b)) (let e : n - length a ≡ suc n - suc (length a) = omega arith in e)

take-within : {X : Type 0} (a b : List X) (n : ℕ) → n ≤ length a → take n (a ++ b) ≡ take n a
take-within [] b zero h = refl
take-within [] b (suc n) h = absurd (omega arith)
take-within (x ∷ a) b zero h = refl
take-within (x ∷ a) b (suc n) h = ap (λ l. x ∷ l) (take-within a b n (omega arith))

take-run : (page off n m : ℕ) → m ≤ n → take m (run page off n) ≡ run page off m
take-run page off n m h =
    let e : n ≡ m + (n - m) = omega arith in
    ap (λ k. take m (run page off k)) e ∙ (ap (take m) (run-append page off m (n - m)) ∙ take_at (run page off m) (run page (off + m) (n - m)) m (length-run page off m))

-- the first bytes of a list, its first segment apart
take-segs : (most : ℕ) (s : Seg) (ss : List Seg) → take most (places_in (s ∷ ss)) ≡ run s.page s.off (min s.len most) ++ take (most - s.len) (places_in ss)
take-segs most s ss = elim (cases_lt most s.len) [
  | inl h ↦
      let long = length-run s.page s.off s.len in
      let n : most - s.len ≡ 0 = omega arith in
      take-within (places_of s) (places_in ss) most (omega arith)
      ∙ (take-run s.page s.off s.len most (omega arith) ∙ (ap (run s.page s.off) (let e : most ≡ min s.len most = omega arith in e) ∙ (sym (append-nil (run s.page s.off (min s.len most))) ∙ ap (λ k. run s.page s.off (min s.len most) ++ take k (places_in ss)) (sym n))))
  | inr h ↦
      let long = length-run s.page s.off s.len in
      take-front (places_of s) (places_in ss) most (omega arith)
      ∙ (ap (λ k. places_of s ++ take (most - k) (places_in ss)) long ∙ ap (λ k. run s.page s.off k ++ take (most - s.len) (places_in ss)) (let e : s.len ≡ min s.len most = omega arith in e))
]

no_run : (page off n : ℕ) (b : List PageByte) → n ≡ 0 → run page off n ++ b ≡ b
unfolding run
no_run page off n b e = ap (λ k. run page off k ++ b) e

pub places-upto : (most : ℕ) (ss : List Seg) → places_in (upto most ss) ≡ take most (places_in ss)
places-upto zero [] = refl
places-upto (suc most) [] = refl
places-upto most (s ∷ ss) = elim (cases_lt 0 (min s.len most)) [
  | inl h ↦ ap places_in (upto-some most s ss h) ∙ (ap (λ l. run s.page s.off (min s.len most) ++ l) (places-upto (most - s.len) ss) ∙ sym (take-segs most s ss))
  | inr h ↦
      ap places_in (upto-none most s ss (omega arith)) ∙ (places-upto (most - s.len) ss
      ∙ sym (take-segs most s ss ∙ no_run s.page s.off (min s.len most) (take (most - s.len) (places_in ss)) (omega arith)))
]

pub places-cut : (ss : List Seg) (at len : ℕ) → places_in (cut ss at len) ≡ range_of ss at len
places-cut ss at len = places-upto len (past at ss) ∙ ap (take len) (places-past at ss)

pub total-past : (at : ℕ) (ss : List Seg) → total (past at ss) ≡ total ss - at
total-past at ss = sym (length-places_in (past at ss)) ∙ (ap length (places-past at ss) ∙ (length-drop at (places_in ss) ∙ ap (λ n. n - at) (length-places_in ss)))

-- where they lie

pub lie-past : (pool : List (List ℕ)) (at : ℕ) (ss : List Seg) → AllLieIn pool ss → AllLieIn pool (past at ss)
lie-past pool at [] h = tt
lie-past pool at (s ∷ ss) h = elim (cases_lt at s.len) [
  | inl l ↦ rw (past-here at s ss l) (record { in_pool = h.0.in_pool; in_page = let k = h.0.in_page in omega arith }, h.1)
  | inr l ↦ rw (past-over at s ss l) (lie-past pool (at - s.len) ss h.1)
]

pub lie-upto : (pool : List (List ℕ)) (most : ℕ) (ss : List Seg) → AllLieIn pool ss → AllLieIn pool (upto most ss)
lie-upto pool most [] h = tt
lie-upto pool most (s ∷ ss) h = elim (cases_lt 0 (min s.len most)) [
  | inl l ↦ rw (upto-some most s ss l) (record { in_pool = h.0.in_pool; in_page = let k = h.0.in_page in omega arith }, lie-upto pool (most - s.len) ss h.1)
  | inr l ↦ rw (upto-none most s ss (omega arith)) (lie-upto pool (most - s.len) ss h.1)
]

-- one segment of a range apart

pub length-cut : (s : Seg) (ss : List Seg) (at len : ℕ) (here : ℕ) → here ≡ min (s.len - at) len → 0 < here → length (cut (s ∷ ss) at len) ≡ suc (length (cut ss (at - s.len) (len - here)))
length-cut s ss at len here e h =
    let k : at < s.len = omega arith in
    let n : at - s.len ≡ 0 = omega arith in
    let m : len - (s.len - at) ≡ len - here = omega arith in
    ap (λ l. length (upto len l)) (past-here at s ss k) ∙ (ap length (upto-some len (behind at s) ss (omega arith))
    ∙ ap suc (ap (λ i. length (upto i ss)) m ∙ sym (ap (λ i. length (upto (len - here) (past i ss))) n ∙ ap length (upto-past_0 (len - here) ss))))

pub length-cut_none : (s : Seg) (ss : List Seg) (at len : ℕ) (here : ℕ) → here ≡ min (s.len - at) len → here ≡ 0 → length (cut (s ∷ ss) at len) ≡ length (cut ss (at - s.len) (len - here))
length-cut_none s ss at len here e h = elim (cases_lt at s.len) [
  | inl k ↦
      let n : at - s.len ≡ 0 = omega arith in
      let m : len - (s.len - at) ≡ len - here = omega arith in
      ap (λ l. length (upto len l)) (past-here at s ss k) ∙ (ap length (upto-none len (behind at s) ss (omega arith))
      ∙ (ap (λ i. length (upto i ss)) m ∙ sym (ap (λ i. length (upto (len - here) (past i ss))) n ∙ ap length (upto-past_0 (len - here) ss))))
  | inr k ↦ ap (λ l. length (upto len l)) (past-over at s ss k) ∙ ap (λ i. length (upto i (past (at - s.len) ss))) (let m : len ≡ len - here = omega arith in m)
]

-- a step of a walk

rest_of : (s : Seg) (ss : List Seg) (at len most : ℕ) → at < s.len → len ≡ min (s.len - at) most → len ≢ 0 → upto (most - len) (past (at + len) (s ∷ ss)) ≡ upto (most - (s.len - at)) ss
rest_of s ss at len most h e f = elim (cases_lt (at + len) s.len) [
  | inl k ↦
      let n : most - len ≡ 0 = omega arith in
      let m : most - (s.len - at) ≡ 0 = omega arith in
      ap (λ i. upto i (past (at + len) (s ∷ ss))) n ∙ (upto-0 (past (at + len) (s ∷ ss)) ∙ sym (ap (λ i. upto i ss) m ∙ upto-0 ss))
  | inr k ↦
      let n : most - len ≡ most - (s.len - at) = omega arith in
      let m : at + len - s.len ≡ 0 = omega arith in
      ap (λ i. upto i (past (at + len) (s ∷ ss))) n ∙ (ap (upto (most - (s.len - at))) (past-over (at + len) s ss k ∙ ap (λ i. past i ss) m) ∙ upto-past_0 (most - (s.len - at)) ss)
]

pub first_part : (s : Seg) (ss : List Seg) (at len most : ℕ) → at < s.len → len ≡ min (s.len - at) most → len ≢ 0 →
    Took most (past at (s ∷ ss)) (past (at + len) (s ∷ ss)) (record { page = s.page; off = s.off + at; len = len })
first_part s ss at len most h e f = record {
  some = omega arith;
  within = omega arith;
  first = ap (upto most) (past-here at s ss h) ∙ (upto-some most (behind at s) ss (omega arith) ∙ (ap (λ n. seg_of s.page (s.off + at) n ∷ upto (most - (s.len - at)) ss) (sym e) ∙ ap (λ l. seg_of s.page (s.off + at) len ∷ l) (sym (rest_of s ss at len most h e f))));
  ahead = sym (past-past len at (s ∷ ss));
}

-- one segment counted

pub counted : (segs : List Seg) (d : Seg) (i count next at left here : ℕ) → i < length segs → here ≡ min ((get_or segs i d).len - at) left → ((0 < here) × (next ≡ count + 1)) ⊎ ((here ≡ 0) × (next ≡ count)) →
    next + length (cut (drop (i + 1) segs) (at - (get_or segs i d).len) (left - here)) ≡ count + length (cut (drop i segs) at left)
counted segs d i count next at left here h e f =
    let s = get_or segs i d in
    let ss = drop (i + 1) segs in
    let split : drop i segs ≡ s ∷ ss = drop-cons segs i d h ∙ ap (λ n. s ∷ drop n segs) (sym (add-one i)) in
    let same = ap (λ l. length (cut l at left)) split in
    elim f [
      | inl g ↦ let n = length-cut s ss at left here e g.0 in let m = g.1 in omega arith
      | inr g ↦ let n = length-cut_none s ss at left here e g.0 in let m = g.1 in omega arith
    ]

-- each has a byte, and there is one at most for each segment of the list

upto-few : (most : ℕ) (ss : List Seg) → length (upto most ss) ≤ most
upto-few most [] = omega arith
upto-few most (s ∷ ss) =
    let rest = upto-few (most - s.len) ss in
    elim (cases_lt 0 (min s.len most)) [
      | inl h ↦ let e = ap length (upto-some most s ss h) in omega arith
      | inr h ↦ let z : min s.len most ≡ 0 = omega arith in let e = ap length (upto-none most s ss z) in omega arith
    ]

upto-fewer : (most : ℕ) (ss : List Seg) → length (upto most ss) ≤ length ss
upto-fewer most [] = omega arith
upto-fewer most (s ∷ ss) =
    let rest = upto-fewer (most - s.len) ss in
    elim (cases_lt 0 (min s.len most)) [
      | inl h ↦ let e = ap length (upto-some most s ss h) in omega arith
      | inr h ↦ let z : min s.len most ≡ 0 = omega arith in let e = ap length (upto-none most s ss z) in omega arith
    ]

past-fewer : (at : ℕ) (ss : List Seg) → length (past at ss) ≤ length ss
past-fewer at [] = omega arith
past-fewer at (s ∷ ss) =
    let rest = past-fewer (at - s.len) ss in
    elim (cases_lt at s.len) [
      | inl h ↦ let e = ap length (past-here at s ss h) in omega arith
      | inr h ↦ let e = ap length (past-over at s ss h) in omega arith
    ]

pub cut-few : (ss : List Seg) (at len : ℕ) → length (cut ss at len) ≤ len
cut-few ss at len = upto-few len (past at ss)

pub cut-fewer : (ss : List Seg) (at len : ℕ) → length (cut ss at len) ≤ length ss
cut-fewer ss at len = let a = upto-fewer len (past at ss) in let b = past-fewer at ss in omega arith
