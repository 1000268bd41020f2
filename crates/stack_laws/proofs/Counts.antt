-- Totals over lists, and how often a block stands in a run of blocks.
use Rattle.std.proofs.Common.{◌≡◌, ℕ, zero, suc, ◌+◌, ◌<◌, ◌≤◌, true, false, eqb, List, [], ◌∷◌, ◌++◌, length, get_or, set, refl, sym, ap, ◌∙◌, ⊎_elim, arith, length-append}
use Rattle.std.specs.Prelude.{if◌then◌else◌, nat_lt}
use Rattle.std.proofs.lemmas.Bool.{cases_eq, cases_lt, eq-eqb, ne_eqb, lt-ltb, le-ltb}
use Rattle.merge_queue.specs.Passed.{Bio}
use Rattle.stack_laws.specs.Blocks.{place_of, BlockId, run_of, blocks, times}
use Rattle.merge_queue.specs.Groups.{size}
use Rattle.merge_queue.specs.Index.{total}

pub total-set : {A : Type 0} (f : A → ℕ) (xs : List A) (i : ℕ) (x d : A) → i < length xs → total f (set xs i x) + f (get_or xs i d) ≡ total f xs + f x
total-set f [] i x d h = absurd (omega arith)
total-set f (y ∷ ys) zero x d h = omega arith
total-set f (y ∷ ys) (suc i) x d h = let e = total-set f ys i x d (omega arith) in omega arith

pub length-run_of : (i k n : ℕ) → length (run_of i k n) ≡ n
length-run_of i k zero = refl
length-run_of i k (suc n) = ap suc (length-run_of i (suc k) n)

pub length-blocks : (bs : List Bio) → length (blocks bs) ≡ size bs
length-blocks [] = refl
length-blocks (b ∷ bs) = length-append (run_of (place_of b.op) b.k b.count) (blocks bs) ∙ (let e = length-blocks bs in let f = length-run_of (place_of b.op) b.k b.count in omega arith)

pub blocks-append : (xs ys : List Bio) → blocks (xs ++ ys) ≡ blocks xs ++ blocks ys
blocks-append [] ys = refl
blocks-append (b ∷ xs) ys = ap (λ l. run_of (place_of b.op) b.k b.count ++ l) (blocks-append xs ys) ∙ sym (append_assoc' (run_of (place_of b.op) b.k b.count) (blocks xs) (blocks ys))
  where
    append_assoc' : {A : Type 0} (x y z : List A) → (x ++ y) ++ z ≡ x ++ (y ++ z)
    append_assoc' [] y z = refl
    append_assoc' (a ∷ x) y z = ap (λ l. a ∷ l) (append_assoc' x y z)

pub split_run : (i k a b n : ℕ) → n ≡ a + b → run_of i k n ≡ run_of i k a ++ run_of i (k + a) b
split_run i k zero b n e = let f : n ≡ b = omega arith in let g : k + 0 ≡ k = omega arith in rw (f, g) refl
split_run i k (suc a) b zero e = absurd (omega arith)
split_run i k (suc a) b (suc n) e =
    let h = split_run i (suc k) a b n (omega arith) in
    let g : suc k + a ≡ k + suc a = omega arith in
    ap (λ l. record { op = i; k = k } ∷ l) (h ∙ ap (λ m. run_of i (suc k) a ++ run_of i m b) g)

-- a block of another op
pub times-other : (i k j m n : ℕ) → (i ≡ j → ⊥) → times i k (run_of j m n) ≡ 0
times-other i k j m zero h = refl
times-other i k j m (suc n) h =
    let e : eqb j i ≡ false = ne_eqb j i (λ e. h (sym e)) in
    let r = times-other i k j (suc m) n h in rw e (omega arith)

-- the block in front of a run, and within it
pub times-before : (i k m n : ℕ) → k < m → times i k (run_of i m n) ≡ 0
times-before i k m zero h = refl
times-before i k m (suc n) h =
    let e : eqb m k ≡ false = ne_eqb m k (λ e. absurd (omega arith)) in
    let f : eqb i i ≡ true = eq-eqb i i refl in
    let r = times-before i k (suc m) n (omega arith) in rw (e, f) (omega arith)

pub times-within : (i k m n : ℕ) → m ≤ k → k < m + n → times i k (run_of i m n) ≡ 1
times-within i k m zero h l = absurd (omega arith)
times-within i k m (suc n) h l =
    let f : eqb i i ≡ true = eq-eqb i i refl in
    ⊎_elim
    (λ (e : m ≡ k). let g : eqb m k ≡ true = eq-eqb m k e in let r = times-before i k (suc m) n (omega arith) in rw (f, g) (omega arith))
    (λ (ne : m ≡ k → ⊥). let g : eqb m k ≡ false = ne_eqb m k ne in let up = above m k h ne in let r = times-within i k (suc m) n up (omega arith) in rw (f, g) (omega arith))
    (cases_eq m k)
  where
    above : (m k : ℕ) → m ≤ k → (m ≡ k → ⊥) → suc m ≤ k
    above m k h ne = omega arith

pub times-after : (i k m n : ℕ) → m + n ≤ k → times i k (run_of i m n) ≡ 0
times-after i k m zero h = refl
times-after i k m (suc n) h =
    let e : eqb m k ≡ false = ne_eqb m k (λ e. absurd (omega arith)) in
    let f : eqb i i ≡ true = eq-eqb i i refl in
    let r = times-after i k (suc m) n (omega arith) in rw (e, f) (omega arith)

-- all blocks of a request
pub times-whole : (i k n : ℕ) → times i k (run_of i 0 n) ≡ if nat_lt k n then 1 else 0
times-whole i k n =
    ⊎_elim
    (λ (h : k < n). let e : nat_lt k n ≡ true = lt-ltb k n h in rw e (times-within i k 0 n (omega arith) (omega arith)))
    (λ (h : n ≤ k). let e : nat_lt k n ≡ false = le-ltb k n h in rw e (times-after i k 0 n (omega arith)))
    (cases_lt k n)

-- a list of blocks that has one has it
pub times-head : (b : BlockId) (bs : List BlockId) → 1 ≤ times b.op b.k (b ∷ bs)
times-head b bs =
    let e : eqb b.op b.op ≡ true = eq-eqb b.op b.op refl in
    let f : eqb b.k b.k ≡ true = eq-eqb b.k b.k refl in
    rw (e, f) (omega arith)
