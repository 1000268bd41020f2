-- The ops of a view, when one of them changes and when blocks are settled.
use Rattle.std.proofs.Common.{◌≡◌, ℕ, zero, suc, ◌+◌, ◌<◌, ◌≤◌, Bool, true, false, eqb, List, [], ◌∷◌, length, get_or, set, refl, sym, ap, ◌∙◌, ⊎_elim, arith}
use Rattle.std.specs.Prelude.{if◌then◌else◌, nat_lt}
use Rattle.std.proofs.lemmas.Bool.{cases_Bool, cases_eq, cases_lt, eq-eqb, ne_eqb, ltb-true, le-ltb}
use Rattle.std.proofs.lemmas.List.{length-set, get_or-set_same, get_or-set_other, set_past, get_or_past}
use Rattle.stack_laws.specs.Blocks.{BlockId, times, is_block}
use Rattle.merge_queue.specs.Index.{total}
use Rattle.stack_laws.proofs.Counts.{total-set}
use Rattle.stack_laws.specs.View.{OpView, all_true, no_op}
use Rattle.stack_laws.specs.Steps.{settle}
use Rattle.stack_laws.specs.Sound.{is_marked}

-- an element after one was set
pub data AtSet {A : Type 0} (xs : List A) (a : ℕ) (x d : A) (i : ℕ) : Type 0 where
  Same : i ≡ a → a < length xs → get_or (set xs a x) i d ≡ x → AtSet xs a x d i
  Other : (i ≡ a → ⊥) → get_or (set xs a x) i d ≡ get_or xs i d → AtSet xs a x d i
  Past : length xs ≤ a → get_or (set xs a x) i d ≡ get_or xs i d → AtSet xs a x d i

pub at_set : {A : Type 0} (xs : List A) (a : ℕ) (x d : A) (i : ℕ) → AtSet xs a x d i
at_set xs a x d i =
    ⊎_elim
    (λ (e : i ≡ a). ⊎_elim
    (λ (h : a < length xs). Same e h (rw e (get_or-set_same xs a x d h)))
    (λ (h : length xs ≤ a). Past h (ap (λ l. get_or l i d) (set_past xs a x h)))
    (cases_lt a (length xs)))
    (λ (ne : i ≡ a → ⊥). Other ne (get_or-set_other xs a i x d ne))
    (cases_eq i a)

-- what settling leaves of an op
pub record Grows (o q : OpView) : Type 0 where
  pub phase : q.phase ≡ o.phase
  pub cut : q.cut ≡ o.cut
  pub length : length q.settled ≡ length o.settled
  pub all : all_true o.settled ≡ true → all_true q.settled ≡ true

grows-same : (o q : OpView) → q ≡ o → Grows o q
grows-same o q e = record { phase = ap (λ x. x.phase) e; cut = ap (λ x. x.cut) e; length = ap (λ x. length x.settled) e; all = λ h. ap (λ x. all_true x.settled) e ∙ h }

grows-on : (o q r : OpView) → Grows o q → Grows q r → Grows o r
grows-on o q r a b = record { phase = b.phase ∙ a.phase; cut = b.cut ∙ a.cut; length = b.length ∙ a.length; all = λ h. b.all (a.all h) }

all-set : (xs : List Bool) (k : ℕ) → all_true xs ≡ true → all_true (set xs k true) ≡ true
all-set [] k h = h
all-set (true ∷ xs) zero h = h
all-set (false ∷ xs) zero h = cc
all-set (true ∷ xs) (suc k) h = all-set xs k h
all-set (false ∷ xs) (suc k) h = cc

abbrev pub mark : OpView → ℕ → OpView
mark o k = record o { settled = set o.settled k true }

grows-mark : (o : OpView) (k : ℕ) → Grows o (mark o k)
grows-mark o k = record { phase = refl; cut = refl; length = length-set o.settled k true; all = λ h. all-set o.settled k h }

abbrev pub after_block : List OpView → BlockId → List OpView
after_block ops b = set ops b.op (mark (get_or ops b.op no_op) b.k)

pub grows-block : (ops : List OpView) (b : BlockId) (i : ℕ) → Grows (get_or ops i no_op) (get_or (after_block ops b) i no_op)
grows-block ops b i = from (at_set ops b.op (mark (get_or ops b.op no_op) b.k) no_op i)
  where
    from : AtSet ops b.op (mark (get_or ops b.op no_op) b.k) no_op i → Grows (get_or ops i no_op) (get_or (after_block ops b) i no_op)
    from (Same e h q) = rw (q, e) (grows-mark (get_or ops b.op no_op) b.k)
    from (Other ne q) = grows-same (get_or ops i no_op) _ q
    from (Past h q) = grows-same (get_or ops i no_op) _ q

pub grows-settle : (bs : List BlockId) (ops : List OpView) (i : ℕ) → Grows (get_or ops i no_op) (get_or (settle bs ops) i no_op)
grows-settle [] ops i = grows-same (get_or ops i no_op) _ refl
grows-settle (b ∷ bs) ops i = grows-on (get_or ops i no_op) (get_or (after_block ops b) i no_op) _ (grows-block ops b i) (grows-settle bs (after_block ops b) i)

pub length-settle : (bs : List BlockId) (ops : List OpView) → length (settle bs ops) ≡ length ops
length-settle [] ops = refl
length-settle (b ∷ bs) ops = length-settle bs (after_block ops b) ∙ length-set ops b.op (mark (get_or ops b.op no_op) b.k)

-- there is room for the marks
abbrev pub room : OpView → ℕ → ℕ
room o k = if nat_lt k (length o.settled) then 1 else 0

other-block : (i k : ℕ) (b : BlockId) → (i ≡ b.op → ⊥) → is_block i k b ≡ 0
other-block i k b ne = let e : eqb b.op i ≡ false = ne_eqb b.op i (λ e. ne (sym e)) in rw e refl

other-place : (i k : ℕ) (b : BlockId) → (k ≡ b.k → ⊥) → is_block i k b ≡ 0
other-place i k b ne =
    let e : eqb b.k k ≡ false = ne_eqb b.k k (λ e. ne (sym e)) in
    ⊎_elim (λ (z : eqb b.op i ≡ true). rw (z, e) refl) (λ (z : eqb b.op i ≡ false). rw z refl) (cases_Bool (eqb b.op i))

pub this-block : (i k : ℕ) (b : BlockId) → i ≡ b.op → k ≡ b.k → is_block i k b ≡ 1
this-block i k b e f =
    let g : eqb b.op i ≡ true = eq-eqb b.op i (sym e) in
    let h : eqb b.k k ≡ true = eq-eqb b.k k (sym f) in
    rw (g, h) refl

pub room-there : (o : OpView) (k : ℕ) → 1 ≤ room o k → (k < length o.settled) × (room o k ≡ 1)
room-there o k h =
    ⊎_elim
    (λ (e : nat_lt k (length o.settled) ≡ true). let r = ltb-true k (length o.settled) e in rw e (r, refl))
    (λ (e : nat_lt k (length o.settled) ≡ false). let r = rw e at h in absurd (omega arith))
    (cases_Bool (nat_lt k (length o.settled)))

-- an unmarked block is marked
marked-then : (o : OpView) (k : ℕ) → is_marked o k + 1 ≤ room o k → is_marked (mark o k) k ≡ is_marked o k + 1
marked-then o k h =
    let r = room-there o k (omega arith) in
    let e = get_or-set_same o.settled k true false r.0 in
    let one : is_marked (mark o k) k ≡ 1 = rw e refl in
    let u = r.1 in
    omega arith

marked-other : (o : OpView) (k m : ℕ) → (m ≡ k → ⊥) → is_marked (mark o k) m ≡ is_marked o m
marked-other o k m ne = ap (λ t. if t then 1 else 0) (get_or-set_other o.settled k m true false ne)

pub no-room : (ops : List OpView) (a k : ℕ) → length ops ≤ a → room (get_or ops a no_op) k ≡ 0
no-room ops a k h =
    let e = get_or_past ops a no_op h in
    let f : nat_lt k 0 ≡ false = le-ltb k 0 (omega arith) in
    rw (e, f) refl

pub marks-block : (ops : List OpView) (b : BlockId) (i k : ℕ) → (is_marked (get_or ops b.op no_op) b.k + 1 ≤ room (get_or ops b.op no_op) b.k) →
    is_marked (get_or (after_block ops b) i no_op) k ≡ is_marked (get_or ops i no_op) k + is_block i k b
marks-block ops b i k h = from (at_set ops b.op (mark (get_or ops b.op no_op) b.k) no_op i)
  where
    from : AtSet ops b.op (mark (get_or ops b.op no_op) b.k) no_op i → is_marked (get_or (after_block ops b) i no_op) k ≡ is_marked (get_or ops i no_op) k + is_block i k b
    from (Same e l q) =
        ⊎_elim
        (λ (f : k ≡ b.k).
        let one = this-block i k b e f in
        let m = marked-then (get_or ops b.op no_op) b.k h in
        rw (one, q, e, f) m)
        (λ (ne : k ≡ b.k → ⊥).
        let none = other-place i k b ne in
        let m = marked-other (get_or ops b.op no_op) b.k k ne in
        rw (none, q, e, m) (omega arith))
        (cases_eq k b.k)
    from (Other ne q) = let none = other-block i k b ne in rw (none, q) (omega arith)
    from (Past l q) = let z = no-room ops b.op b.k l in absurd (omega arith)

pub room-grows : (o q : OpView) (k : ℕ) → Grows o q → room q k ≡ room o k
room-grows o q k g = ap (λ n. if nat_lt k n then 1 else 0) g.length

-- these blocks are settled besides
pub marks-settle : (bs : List BlockId) (ops : List OpView) → ((i k : ℕ) → is_marked (get_or ops i no_op) k + times i k bs ≤ room (get_or ops i no_op) k) →
    (i k : ℕ) → is_marked (get_or (settle bs ops) i no_op) k ≡ is_marked (get_or ops i no_op) k + times i k bs
marks-settle [] ops h i k = omega arith
marks-settle (b ∷ bs) ops h i k =
    let here : is_marked (get_or ops b.op no_op) b.k + 1 ≤ room (get_or ops b.op no_op) b.k = (let t = h b.op b.k in let u = this-block b.op b.k b refl refl in omega arith) in
    let more : (i k : ℕ) → is_marked (get_or (after_block ops b) i no_op) k + times i k bs ≤ room (get_or (after_block ops b) i no_op) k =
    λ i k. (let t = h i k in let m = marks-block ops b i k here in let g = room-grows (get_or ops i no_op) (get_or (after_block ops b) i no_op) k (grows-block ops b i) in omega arith) in
    let e = marks-settle bs (after_block ops b) more i k in
    let m = marks-block ops b i k here in
    omega arith

-- ---- how many are not settled

abbrev pub unmarked_in : List Bool → ℕ
unmarked_in xs = total (λ b. if b then 0 else 1) xs

pub unmarked-set : (xs : List Bool) (k : ℕ) → k < length xs → get_or xs k false ≡ false → unmarked_in (set xs k true) + 1 ≡ unmarked_in xs
unmarked-set [] k h e = absurd (omega arith)
unmarked-set (true ∷ xs) zero h e = cc
unmarked-set (false ∷ xs) zero h e = omega arith
unmarked-set (x ∷ xs) (suc k) h e = let t = unmarked-set xs k (omega arith) e in omega arith

pub not-marked : (o : OpView) (k : ℕ) → is_marked o k + 1 ≤ 1 → get_or o.settled k false ≡ false
not-marked o k h =
    ⊎_elim
    (λ (e : get_or o.settled k false ≡ true). let f = rw e at h in absurd (omega arith))
    (λ (e : get_or o.settled k false ≡ false). e)
    (cases_Bool (get_or o.settled k false))

unsettled-block : (ops : List OpView) (b : BlockId) → (is_marked (get_or ops b.op no_op) b.k + 1 ≤ room (get_or ops b.op no_op) b.k) →
    total (λ o. unmarked_in o.settled) (after_block ops b) + 1 ≡ total (λ o. unmarked_in o.settled) ops
unsettled-block ops b h =
    let r = room-there (get_or ops b.op no_op) b.k (omega arith) in
    let u = r.1 in
    let n = not-marked (get_or ops b.op no_op) b.k (omega arith) in
    let s = unmarked-set (get_or ops b.op no_op).settled b.k r.0 n in
    ⊎_elim
    (λ (l : b.op < length ops). let t = total-set (λ (o : OpView). unmarked_in o.settled) ops b.op (mark (get_or ops b.op no_op) b.k) no_op l in omega arith)
    (λ (l : length ops ≤ b.op). let z = no-room ops b.op b.k l in absurd (omega arith))
    (cases_lt b.op (length ops))

pub unsettled-settle : (bs : List BlockId) (ops : List OpView) → ((i k : ℕ) → is_marked (get_or ops i no_op) k + times i k bs ≤ room (get_or ops i no_op) k) →
    total (λ o. unmarked_in o.settled) (settle bs ops) + length bs ≡ total (λ o. unmarked_in o.settled) ops
unsettled-settle [] ops h = omega arith
unsettled-settle (b ∷ bs) ops h =
    let here : is_marked (get_or ops b.op no_op) b.k + 1 ≤ room (get_or ops b.op no_op) b.k = (let t = h b.op b.k in let u = this-block b.op b.k b refl refl in omega arith) in
    let more : (i k : ℕ) → is_marked (get_or (after_block ops b) i no_op) k + times i k bs ≤ room (get_or (after_block ops b) i no_op) k =
    λ i k. (let t = h i k in let m = marks-block ops b i k here in let g = room-grows (get_or ops i no_op) (get_or (after_block ops b) i no_op) k (grows-block ops b i) in omega arith) in
    let e = unsettled-settle bs (after_block ops b) more in
    let m = unsettled-block ops b here in
    omega arith
