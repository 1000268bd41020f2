-- Where the first group stands behind which another may be joined, as groups come and go.
use Rattle.std.proofs.Common.{◌≡◌, ℕ, zero, suc, ◌+◌, ◌-◌, ◌<◌, ◌≤◌, ◌⊎◌, Bool, true, false, eqb, List, [], ◌++◌, length, set, map, refl, sym, ap, ◌∙◌, subst, ⊎_elim, inl, inr, arith}
use Rattle.std.specs.Prelude.{if◌then◌else◌}
use Rattle.std.specs.List.{filter, flat_map, insert}
use Rattle.std.proofs.lemmas.Bool.{cases_lt, cases_eq, ne_eqb}
use Rattle.std.proofs.lemmas.List.{length-set}
use Rattle.std.proofs.lemmas.Grind.{flat_map-append}
use Rattle.merge_queue.specs.declared.limits.Limits.{Limits}
use Rattle.merge_queue.specs.Groups.{Group, may_follow, may_join, group_in, numbers, followers, pairs, without, joined}
use Rattle.merge_queue.specs.Counts.{NoneJoins}
use Rattle.merge_queue.proofs.Joins.{row, none-pass, numbers-split}
use Rattle.merge_queue.proofs.Counts.{IsLeft, filter-first, left-there, left-without, length-without, same-never, without-insert, insert-long}

-- ---- numbers of which none passes

pub none-passed : (t : ℕ → Bool) (k n : ℕ) → length (filter t (numbers k n)) ≡ 0 → (j : ℕ) → k ≤ j → j < k + n → t j ≡ false
none-passed t k zero h j l m = absurd (omega arith)
none-passed t k (suc n) h j l m =
    let a = filter-first t k (numbers (suc k) n) in
    ⊎_elim
    (λ (e : j ≡ k). rw e (first (t k) (omega arith)))
    (λ (ne : j ≡ k → ⊥). none-passed t (suc k) n (omega arith) j (omega arith) (omega arith))
    (cases_eq j k)
  where
    first : (b : Bool) → (if b then 1 else 0) + 0 ≡ 0 → b ≡ false
    first true e = absurd (omega arith)
    first false e = refl

-- ---- a walk begins behind the groups that are the first of no pair

rows-empty : (lim : Limits) (q : List Group) (k n : ℕ) → ((i : ℕ) → k ≤ i → i < k + n → followers lim q i ≡ []) → flat_map (row lim q) (numbers k n) ≡ []
rows-empty lim q k zero h = refl
rows-empty lim q k (suc n) h =
    let e = h k (omega arith) (omega arith) in
    ap (λ (l : List ℕ). map (λ j. (k, j)) l ++ flat_map (row lim q) (numbers (suc k) n)) e ∙ rows-empty lim q (suc k) n (λ i l m. h i (omega arith) (omega arith))

pub none-follow : (lim : Limits) (q : List Group) (first i : ℕ) → NoneJoins lim q first → i < first → i < length q → followers lim q i ≡ []
none-follow lim q first i h l m = none-pass (may_join lim q i) 0 (length q) (λ j a b. h i j l m (omega arith))

pub skipped : (lim : Limits) (q : List Group) (first n : ℕ) → n ≡ length q → first ≤ n → NoneJoins lim q first → flat_map (row lim q) (numbers first (n - first)) ≡ pairs lim q
skipped lim q first n e l h =
    let split = numbers-split 0 first (n - first) n (omega arith) in
    let z : 0 + first ≡ first = omega arith in
    let empty = rows-empty lim q 0 first (λ i a b. none-follow lim q first i h (omega arith) (omega arith)) in
    sym (ap (λ m. flat_map (row lim q) (numbers 0 m)) (sym e) ∙ (ap (flat_map (row lim q)) split
    ∙ (flat_map-append (row lim q) (numbers 0 first) (numbers (0 + first) (n - first)) ∙ (ap (λ l. l ++ flat_map (row lim q) (numbers (0 + first) (n - first))) empty ∙ ap (λ m. flat_map (row lim q) (numbers m (n - first))) z))))

pub one-more : (lim : Limits) (q : List Group) (i : ℕ) → NoneJoins lim q i → length (followers lim q i) ≡ 0 → NoneJoins lim q (i + 1)
one-more lim q i h e a b l m n =
    ⊎_elim
    (λ (s : a ≡ i). none-passed (may_join lim q a) 0 (length q) (rw s e) b (omega arith) (omega arith))
    (λ (ne : a ≡ i → ⊥). h a b (omega arith) m n)
    (cases_eq a i)

-- ---- places, as one group goes or comes

-- group a is at place p once group m has gone
abbrev pub Shift : (m a p : ℕ) → Type 0
Shift m a p = ((a < m) × (p ≡ a)) ⊎ ((m < a) × (p + 1 ≡ a))

left-of : (m a p : ℕ) → Shift m a p → IsLeft a m p
left-of m a p s = elim s [
  | inl w ↦ let l = w.0 in let e = w.1 in record { other = λ z. absurd (omega arith); before = λ x. e; behind = λ x. absurd (omega arith) }
  | inr w ↦ let l = w.0 in let e = w.1 in record { other = λ z. absurd (omega arith); before = λ x. absurd (omega arith); behind = λ x. e }
]

one-group : (m a b p q : ℕ) → Shift m a p → Shift m b q → p ≡ q → a ≡ b
one-group m a b p q s t e = elim s [
  | inl w ↦ let l = w.0 in let f = w.1 in elim t [ inl v ↦ let k = v.0 in let g = v.1 in omega arith | inr v ↦ let k = v.0 in let g = v.1 in absurd (omega arith) ]
  | inr w ↦ let l = w.0 in let f = w.1 in elim t [ inl v ↦ let k = v.0 in let g = v.1 in absurd (omega arith) | inr v ↦ let k = v.0 in let g = v.1 in omega arith ]
]

one-place : (m a b p q : ℕ) → Shift m a p → Shift m b q → a ≡ b → p ≡ q
one-place m a b p q s t e = elim s [
  | inl w ↦ let l = w.0 in let f = w.1 in elim t [ inl v ↦ let k = v.0 in let g = v.1 in omega arith | inr v ↦ let k = v.0 in let g = v.1 in absurd (omega arith) ]
  | inr w ↦ let l = w.0 in let f = w.1 in elim t [ inl v ↦ let k = v.0 in let g = v.1 in absurd (omega arith) | inr v ↦ let k = v.0 in let g = v.1 in omega arith ]
]

was-at : (m p : ℕ) → (a : ℕ) × Shift m a p
was-at m p = ⊎_elim (λ (l : p < m). (p, inl (l, refl))) (λ (l : m ≤ p). (p + 1, inr (omega arith, refl))) (cases_lt p m)

is-at : (m a : ℕ) → (a ≡ m → ⊥) → (p : ℕ) × Shift m a p
is-at m a ne = ⊎_elim
    (λ (l : a < m). (a, inl (l, refl)))
    (λ (l : m ≤ a). ⊎_elim (λ (k : m < a). (a - 1, inr (k, omega arith))) (λ (k : a ≤ m). let e : a ≡ m = omega arith in absurd (ne e)) (cases_lt m a))
    (cases_lt a m)

-- within as many groups, and as many but one
there-then : (m a p n w : ℕ) → Shift m a p → suc w ≡ n → m < n → p < w → a < n
there-then m a p n w s e l k = elim s [ inl v ↦ let x = v.0 in omega arith | inr v ↦ let x = v.1 in omega arith ]

there-now : (m a p n w : ℕ) → Shift m a p → suc w ≡ n → m < n → a < n → p < w
there-now m a p n w s e l k = elim s [ inl v ↦ let x = v.0 in let y = v.1 in omega arith | inr v ↦ let x = v.1 in omega arith ]

below-then : (m a p first left : ℕ) → Shift m a p → (first ≤ m → left ≡ first) → (m < first → left + 1 ≡ first) → p < left → a < first
below-then m a p first left s x y l = ⊎_elim
    (λ (z : m < first). let e = y z in elim s [ inl v ↦ let f = v.1 in omega arith | inr v ↦ let f = v.1 in omega arith ])
    (λ (z : first ≤ m). let e = x z in elim s [ inl v ↦ let f = v.1 in omega arith | inr v ↦ let f = v.0 in let g = v.1 in absurd (omega arith) ])
    (cases_lt m first)

below-now : (m a p first : ℕ) → Shift m a p → a < first → p < first
below-now m a p first s l = elim s [ inl v ↦ let f = v.1 in omega arith | inr v ↦ let f = v.1 in omega arith ]

-- ---- pairs of two queues

-- two groups of one queue that differ are two of another
same-pair : (lim : Limits) (q r : List Group) (a b i j : ℕ) → group_in r a ≡ group_in q i → group_in r b ≡ group_in q j → (i ≡ j → ⊥) → may_join lim q i j ≡ false → may_join lim r a b ≡ false
same-pair lim q r a b i j e f ne h =
    let o : eqb i j ≡ false = ne_eqb i j ne in
    let g : may_follow lim (group_in q i) (group_in q j) ≡ false = sym (rw o refl) ∙ h in
    ⊎_elim
    (λ (s : a ≡ b). same-never lim r a b s)
    (λ (ns : a ≡ b → ⊥). let p : eqb a b ≡ false = ne_eqb a b ns in rw (p, e, f) g)
    (cases_eq a b)

pub none-gone : (lim : Limits) (q : List Group) (m first left : ℕ) → m < length q → (first ≤ m → left ≡ first) → (m < first → left + 1 ≡ first) → NoneJoins lim q first → NoneJoins lim (without m q) left
none-gone lim q m first left k x y h a b l o n =
    let s = was-at m a in
    let t = was-at m b in
    let long = length-without q m k in
    ⊎_elim
    (λ (e : a ≡ b). same-never lim (without m q) a b e)
    (λ (ne : a ≡ b → ⊥). same-pair lim q (without m q) a b s.0 t.0 (left-there q s.0 m a [] (left-of m s.0 a s.1)) (left-there q t.0 m b [] (left-of m t.0 b t.1))
    (λ e. ne (one-place m s.0 t.0 a b s.1 t.1 e))
    (h s.0 t.0 (below-then m s.0 a first left s.1 x y l) (there-then m s.0 a (length q) (length (without m q)) s.1 long k o) (there-then m t.0 b (length q) (length (without m q)) t.1 long k n)))
    (cases_eq a b)

pub none-came : (lim : Limits) (q : List Group) (k first low : ℕ) → k < length q → NoneJoins lim (without k q) first → low ≤ first →
    ((j : ℕ) → k < low → j < length q → may_join lim q k j ≡ false) → ((j : ℕ) → j < low → j < length q → may_join lim q j k ≡ false) → NoneJoins lim q low
none-came lim q k first low there h less behind before a b l m n =
    ⊎_elim
    (λ (e : a ≡ k). subst (λ z. may_join lim q z b ≡ false) (sym e) (behind b (omega arith) n))
    (λ (na : a ≡ k → ⊥).
    ⊎_elim
    (λ (e : b ≡ k). subst (λ z. may_join lim q a z ≡ false) (sym e) (before a l m))
    (λ (nb : b ≡ k → ⊥). ⊎_elim (λ (e : a ≡ b). same-never lim q a b e) (λ (ne : a ≡ b → ⊥). others na nb ne) (cases_eq a b))
    (cases_eq b k))
    (cases_eq a k)
  where
    others : (a ≡ k → ⊥) → (b ≡ k → ⊥) → (a ≡ b → ⊥) → may_join lim q a b ≡ false
    others na nb ne =
        let s = is-at k a na in
        let t = is-at k b nb in
        let long = length-without q k there in
        same-pair lim (without k q) q a b s.0 t.0 (sym (left-there q a k s.0 [] (left-of k a s.0 s.1))) (sym (left-there q b k t.0 [] (left-of k b t.0 t.1)))
        (λ e. ne (one-group k a b s.0 t.0 s.1 t.1 e))
        (h s.0 t.0 (below-now k a s.0 first s.1 (omega arith)) (there-now k a s.0 (length q) (length (without k q)) s.1 long there m) (there-now k b t.0 (length q) (length (without k q)) t.1 long there n))

-- ---- the moves of a queue

pub none-put : (lim : Limits) (q q' : List Group) (at first low : ℕ) (g : Group) → at ≤ length q → q' ≡ insert q at g → NoneJoins lim q first → low ≤ first →
    ((j : ℕ) → at < low → j < length q' → may_join lim q' at j ≡ false) → ((j : ℕ) → j < low → j < length q' → may_join lim q' j at ≡ false) → NoneJoins lim q' low
none-put lim q q' at first low g l e h less behind before =
    let same : q ≡ without at q' = sym (ap (without at) e ∙ without-insert q at g l) in
    let long = insert-long q at g l in
    let size = ap length e in
    none-came lim q' at first low (omega arith) (subst (λ z. NoneJoins lim z first) same h) less behind before

pub none-taken : (lim : Limits) (q q' : List Group) (m first left : ℕ) → q' ≡ without m q → m < length q → (first ≤ m → left ≡ first) → (m < first → left + 1 ≡ first) → NoneJoins lim q first → NoneJoins lim q' left
none-taken lim q q' m first left e k x y h = subst (λ z. NoneJoins lim z left) (sym e) (none-gone lim q m first left k x y h)

pub none-joined : (lim : Limits) (q q' : List Group) (i j k first mid left low : ℕ) → IsLeft i j k → q' ≡ joined q i j → j < length q → k < length q' →
    NoneJoins lim q first → (first ≤ j → mid ≡ first) → (j < first → mid + 1 ≡ first) → (mid ≤ k → left ≡ mid) → (k < mid → left + 1 ≡ mid) → low ≤ left →
    ((a : ℕ) → k < low → a < length q' → may_join lim q' k a ≡ false) → ((a : ℕ) → a < low → a < length q' → may_join lim q' a k ≡ false) → NoneJoins lim q' low
none-joined lim q q' i j k first mid left low w e l there h a b c d less behind before =
    let y = group_in q i ++ group_in q j in
    let long = length-set q i y in
    let one-less = length-without q j l in
    let too = length-without (set q i y) j (omega arith) in
    let size = ap length e in
    let one = none-gone lim q j first mid l a b h in
    let two = none-gone lim (without j q) k mid left (omega arith) c d one in
    let same : without k (without j q) ≡ without k q' = sym (ap (without k) e ∙ left-without q i j k y w) in
    none-came lim q' k left low there (subst (λ z. NoneJoins lim z left) same two) less behind before
