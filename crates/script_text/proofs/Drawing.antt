-- One more op, word or number of a script that is made from a number.
use Rattle.std.proofs.Common.{ℕ, suc, ◌≡◌, ◌+◌, ◌-◌, ◌<◌, List, [], ◌∷◌, ◌++◌, sym, ap, ◌∙◌, arith, append_assoc}
use Rattle.stack_ops.specs.declared.op.Op.{Op}
use Rattle.script_text.specs.Generator.{after_op, after_ops, drawn, next_state, numbers_from, op_from, ops_from, schedule_from}

pub less : (n i : ℕ) → i < n → n - i ≡ suc (n - (i + 1))
less n i h = omega (arith, h)

-- a list whose items are those so far and a next one
one_more : {X : Type 0} → (old new : List X) (x y : X) (rest : List X) → new ≡ old ++ (x ∷ []) → x ≡ y → new ++ rest ≡ old ++ (y ∷ rest)
one_more old new x y rest e h = ap (λ l. l ++ rest) e ∙ append_assoc old (x ∷ []) rest ∙ ap (λ z. old ++ (z ∷ rest)) h

pub ops_more : (old new all : List Op) (op : Op) (n i x y : ℕ) → i < n → old ++ ops_from (n - i) x ≡ all → new ≡ old ++ (op ∷ []) → op ≡ op_from x → y ≡ after_op x
    → new ++ ops_from (n - (i + 1)) y ≡ all
ops_more old new all op n i x y h made e value state =
    one_more old new op (op_from x) (ops_from (n - (i + 1)) y) e value
    ∙ ap (λ z. old ++ (op_from x ∷ ops_from (n - (i + 1)) z)) state
    ∙ ap (λ k. old ++ ops_from k x) (sym (less n i h))
    ∙ made

pub states_more : (n i x y all : ℕ) → i < n → after_ops (n - i) x ≡ all → y ≡ after_op x → after_ops (n - (i + 1)) y ≡ all
states_more n i x y all h made state = ap (after_ops (n - (i + 1))) state ∙ ap (λ k. after_ops k x) (sym (less n i h)) ∙ made

pub schedule_more : (old new all : List (ℕ × ℕ)) (word cut n i x w y : ℕ) → i < n → old ++ schedule_from (n - i) x ≡ all → new ≡ old ++ ((word, cut) ∷ [])
    → word ≡ drawn 65536 (next_state x) → w ≡ next_state x → cut ≡ drawn 9 (next_state w) → y ≡ next_state w → new ++ schedule_from (n - (i + 1)) y ≡ all
schedule_more old new all word cut n i x w y h made e is_word first is_cut second =
    one_more old new (word, cut) (drawn 65536 (next_state x), drawn 9 (next_state (next_state x))) (schedule_from (n - (i + 1)) y) e
    (ap (λ a. (a, cut)) is_word ∙ ap (λ b. (drawn 65536 (next_state x), b)) (is_cut ∙ ap (λ z. drawn 9 (next_state z)) first))
    ∙ ap (λ z. old ++ ((drawn 65536 (next_state x), drawn 9 (next_state (next_state x))) ∷ schedule_from (n - (i + 1)) z)) (second ∙ ap next_state first)
    ∙ ap (λ k. old ++ schedule_from k x) (sym (less n i h))
    ∙ made

pub numbers_more : (old new all : List ℕ) (n i k : ℕ) → i < n → old ++ numbers_from (n - i) k ≡ all → new ≡ old ++ (k ∷ []) → new ++ numbers_from (n - (i + 1)) (k + 1) ≡ all
numbers_more old new all n i k h made e = ap (λ l. l ++ numbers_from (n - (i + 1)) (k + 1)) e ∙ append_assoc old (k ∷ []) (numbers_from (n - (i + 1)) (k + 1)) ∙ ap (λ m. old ++ numbers_from m k) (sym (less n i h)) ∙ made
