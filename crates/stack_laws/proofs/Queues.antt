-- Totals over the groups of a queue, when groups come, join and go.
use Rattle.std.proofs.Common.{◌≡◌, ℕ, zero, suc, ◌+◌, ◌<◌, true, false, List, [], ◌∷◌, ◌++◌, length, set, refl, sym, ap, ⊎_elim, arith}
use Rattle.std.proofs.lemmas.Bool.{cases_Bool}
use Rattle.std.proofs.lemmas.List.{length-set, get_or-set_other}
use Rattle.std.specs.List.{All}
use Rattle.std.proofs.lemmas.List.Elements.{All-cons, All-head, All-tail, All-set, All-get_or}
use Rattle.std.specs.Prelude.{nat_lt}
use Rattle.merge_queue.specs.Index.{total}
use Rattle.merge_queue.specs.Groups.{Group, lba_of, put, put_all, without, joined, group_in}
use Rattle.merge_queue.proofs.Lists.{total-without}
use Rattle.merge_queue.proofs.Moves.{size-append}
use Rattle.stack_laws.specs.Sound.{HasBlocks}
use Rattle.stack_laws.proofs.Counts.{total-set}

pub total-put : (f : Group → ℕ) (g : Group) (q : List Group) → total f (put g q) ≡ f g + total f q
total-put f g [] = refl
total-put f g (h ∷ hs) =
    ⊎_elim
    (λ (e : nat_lt (lba_of g) (lba_of h) ≡ true). rw e refl)
    (λ (e : nat_lt (lba_of g) (lba_of h) ≡ false). rw e (let k = total-put f g hs in omega arith))
    (cases_Bool (nat_lt (lba_of g) (lba_of h)))

pub total-put_all : (f : Group → ℕ) (gs q : List Group) → total f (put_all gs q) ≡ total f gs + total f q
total-put_all f [] q = omega arith
total-put_all f (g ∷ gs) q = let e = total-put_all f gs (put g q) in let k = total-put f g q in omega arith

pub total-joined : (f : Group → ℕ) (q : List Group) (i j : ℕ) → i < length q → j < length q → (i ≡ j → ⊥) →
    total f (joined q i j) + (f (group_in q i) + f (group_in q j)) ≡ total f q + f (group_in q i ++ group_in q j)
total-joined f q i j h k ne =
    let l = length-set q i (group_in q i ++ group_in q j) in
    let a = total-without f (set q i (group_in q i ++ group_in q j)) j [] (omega arith) in
    let b = total-set f q i (group_in q i ++ group_in q j) [] h in
    let c = ap f (get_or-set_other q i j (group_in q i ++ group_in q j) [] (λ e. ne (sym e))) in
    omega arith

pub All-put : (P : Group → Type 0) (g : Group) (q : List Group) → P g → All P q → All P (put g q)
All-put P g [] p a = All-cons P g [] p a
All-put P g (h ∷ hs) p a =
    ⊎_elim
    (λ (e : nat_lt (lba_of g) (lba_of h) ≡ true). rw e (All-cons P g (h ∷ hs) p a))
    (λ (e : nat_lt (lba_of g) (lba_of h) ≡ false). rw e (All-cons P h (put g hs) (All-head P h hs a) (All-put P g hs p (All-tail P h hs a))))
    (cases_Bool (nat_lt (lba_of g) (lba_of h)))

pub All-put_all : (P : Group → Type 0) (gs q : List Group) → All P gs → All P q → All P (put_all gs q)
All-put_all P [] q b a = a
All-put_all P (g ∷ gs) q b a = All-put_all P gs (put g q) (All-tail P g gs b) (All-put P g q (All-head P g gs b) a)

pub All-without : {A : Type 0} (P : A → Type 0) (i : ℕ) (xs : List A) → All P xs → All P (without i xs)
All-without P i [] a = a
All-without P zero (x ∷ xs) a = All-tail P x xs a
All-without P (suc i) (x ∷ xs) a = All-cons P x (without i xs) (All-head P x xs a) (All-without P i xs (All-tail P x xs a))

pub All-joined : (q : List Group) (i j : ℕ) → i < length q → All HasBlocks q → All HasBlocks (joined q i j)
All-joined q i j h a =
    All-without HasBlocks j (set q i (group_in q i ++ group_in q j))
    (All-set HasBlocks q i (group_in q i ++ group_in q j) (let s = size-append (group_in q i) (group_in q j) in let p = All-get_or HasBlocks q i [] h a in omega arith) a)
