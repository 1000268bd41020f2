-- The commands in flight are enough.
use Rattle.std.proofs.Common.{◌≡◌, ℕ, zero, suc, ◌+◌, ◌-◌, ◌<◌, ◌≤◌, Bool, true, false, not, List, [], ◌∷◌, ◌++◌, length, get_or, set, refl, sym, ap, ◌∙◌, ⊎_elim, arith}
use Rattle.std.specs.List.{filter}
use Rattle.std.proofs.lemmas.Bool.{cases_Bool}
use Rattle.std.proofs.lemmas.List.{length-map, get_or-map}
use Rattle.std.proofs.lemmas.List.Elements.{filter-append}
use Rattle.stack_laws.specs.Plan.{Plan}
use Rattle.merge_queue.specs.Groups.{numbers, without}
use Rattle.stack_laws.specs.View.{View, Command, no_command}
use Rattle.stack_laws.specs.Steps.{End, Complete, can, enabled_below}
use Rattle.stack_laws.specs.Open.{is_open, in_order, Completes}

-- the numbers of the commands in flight, of those that stand from place k on
abbrev open-from : ℕ → List Command → List ℕ
open-from k cs = filter (λ j. is_open (get_or cs (j - k) no_command)) (numbers k (length cs))

pub shifted : (t u : ℕ → Bool) (k n : ℕ) → ((j : ℕ) → k ≤ j → j < k + n → t j ≡ u j) → filter t (numbers k n) ≡ filter u (numbers k n)
shifted t u k zero h = refl
shifted t u k (suc n) h =
    let e = h k (omega arith) (omega arith) in
    let r = shifted t u (suc k) n (λ j a b. h j (omega arith) (omega arith)) in
    ⊎_elim
    (λ (z : u k ≡ true). let y = e ∙ z in rw (y, z) (ap (λ w. k ∷ w) r))
    (λ (z : u k ≡ false). let y = e ∙ z in rw (y, z) r)
    (cases_Bool (u k))

open-next : (k : ℕ) (c : Command) (cs : List Command) → filter (λ j. is_open (get_or (c ∷ cs) (j - k) no_command)) (numbers (suc k) (length cs)) ≡ open-from (suc k) cs
open-next k c cs =
    shifted (λ j. is_open (get_or (c ∷ cs) (j - k) no_command)) (λ j. is_open (get_or cs (j - suc k) no_command)) (suc k) (length cs)
    (λ j a b. (let e : j - k ≡ suc (j - suc k) = omega arith in rw e refl))

record At (cs : List Command) (k i : ℕ) : Type 0 where
  pub j : ℕ
  pub number : get_or (open-from k cs) i 0 ≡ k + j
  pub same : get_or cs j no_command ≡ get_or (in_order cs) i no_command
  pub left : in_order (set cs j (record (get_or cs j no_command) { completed = true })) ≡ without i (in_order cs)

head-open : (k : ℕ) (c : Command) (cs : List Command) → c.completed ≡ false → open-from k (c ∷ cs) ≡ k ∷ open-from (suc k) cs
head-open k c cs e = let z : k - k ≡ 0 = omega arith in rw (z, e) (ap (λ w. k ∷ w) (open-next k c cs))

head-closed : (k : ℕ) (c : Command) (cs : List Command) → c.completed ≡ true → open-from k (c ∷ cs) ≡ open-from (suc k) cs
head-closed k c cs e = let z : k - k ≡ 0 = omega arith in rw (z, e) (open-next k c cs)

filter-yes : {A : Type 0} (t : A → Bool) (x : A) (xs : List A) → t x ≡ true → filter t (x ∷ xs) ≡ x ∷ filter t xs
filter-yes t x xs h = rw h refl

open-head : (c : Command) (cs ds : List Command) → c.completed ≡ false → in_order cs ≡ ds → in_order (c ∷ cs) ≡ c ∷ ds
open-head c cs ds e h = filter-yes is_open c cs (ap not e) ∙ ap (λ w. c ∷ w) h

pub open-length : (k : ℕ) (cs : List Command) → length (open-from k cs) ≡ length (in_order cs)
open-length k [] = refl
open-length k (c ∷ cs) =
    let r = open-length (suc k) cs in
    ⊎_elim
    (λ (e : c.completed ≡ true). ap length (head-closed k c cs e) ∙ r ∙ rw e refl)
    (λ (e : c.completed ≡ false). ap length (head-open k c cs e) ∙ ap suc r ∙ sym (ap length (open-head c cs (in_order cs) e refl)))
    (cases_Bool c.completed)

-- a command that is completed behind or in front
closed-head : (c : Command) (cs ds : List Command) → c.completed ≡ true → in_order cs ≡ ds → in_order (c ∷ cs) ≡ ds
closed-head c cs ds e h = rw e h

at : (cs : List Command) (k i : ℕ) → i < length (in_order cs) → At cs k i
at [] k i h = absurd (omega arith)
at (c ∷ cs) k i h =
    ⊎_elim
    (λ (e : c.completed ≡ true). closed e (at cs (suc k) i (let l = ap length (closed-head c cs (in_order cs) e refl) in omega arith)))
    (λ (e : c.completed ≡ false). opened e i h (λ m l. at cs (suc k) m l))
    (cases_Bool c.completed)
  where
    closed : c.completed ≡ true → At cs (suc k) i → At (c ∷ cs) k i
    closed e a = record {
      j = suc a.j;
      number = ap (λ w. get_or w i 0) (head-closed k c cs e) ∙ a.number ∙ omega arith;
      same = a.same ∙ ap (λ w. get_or w i no_command) (sym (closed-head c cs (in_order cs) e refl));
      left = closed-head c (set cs a.j (record (get_or cs a.j no_command) { completed = true })) (without i (in_order cs)) e a.left ∙ ap (without i) (sym (closed-head c cs (in_order cs) e refl));
    }

    opened : c.completed ≡ false → (i : ℕ) → i < length (in_order (c ∷ cs)) → ((m : ℕ) → m < length (in_order cs) → At cs (suc k) m) → At (c ∷ cs) k i
    opened e zero l r = record {
      j = 0;
      number = ap (λ w. get_or w 0 0) (head-open k c cs e) ∙ omega arith;
      same = ap (λ w. get_or w 0 no_command) (sym (open-head c cs (in_order cs) e refl));
      left = ap (without 0) (sym (open-head c cs (in_order cs) e refl));
    }
    opened e (suc i) l r =
        let a = r i (let n = ap length (open-head c cs (in_order cs) e refl) in omega arith) in
        record {
          j = suc a.j;
          number = ap (λ w. get_or w (suc i) 0) (head-open k c cs e) ∙ a.number ∙ omega arith;
          same = a.same ∙ ap (λ w. get_or w (suc i) no_command) (sym (open-head c cs (in_order cs) e refl));
          left = open-head c (set cs a.j (record (get_or cs a.j no_command) { completed = true })) (without i (in_order cs)) e a.left ∙ ap (without (suc i)) (sym (open-head c cs (in_order cs) e refl));
        }

numbers-open : (p : Plan) (v : View) → filter (λ j. can p v (Complete j)) (numbers 0 (length v.commands)) ≡ open-from 0 v.commands
numbers-open p v =
    shifted (λ j. can p v (Complete j)) (λ j. is_open (get_or v.commands (j - 0) no_command)) 0 (length v.commands)
    (λ j a b. (let e : j - 0 ≡ j = omega arith in rw e refl))

pub completes-length : (p : Plan) (v : View) → length (enabled_below p v Complete (length v.commands)) ≡ length (in_order v.commands)
completes-length p v =
    length-map (filter (λ j. can p v (Complete j)) (numbers 0 (length v.commands))) Complete ∙ ap length (numbers-open p v) ∙ open-length 0 v.commands

pub completes-at : (p : Plan) (v : View) (i : ℕ) → i < length (in_order v.commands) → Completes p v i
completes-at p v i h =
    let a = at v.commands 0 i h in
    let l = open-length 0 v.commands in
    let n = ap length (numbers-open p v) in
    record {
      j = a.j;
      step = get_or-map Complete (filter (λ j. can p v (Complete j)) (numbers 0 (length v.commands))) i 0 (End 0) (omega arith)
          ∙ ap (λ w. Complete (get_or w i 0)) (numbers-open p v) ∙ ap Complete (a.number ∙ omega arith);
      same = a.same;
      left = a.left;
    }

pub sent-last : (cs : List Command) (c : Command) → c.completed ≡ false → in_order (cs ++ c ∷ []) ≡ in_order cs ++ c ∷ []
sent-last cs c e = filter-append is_open cs (c ∷ []) ∙ ap (λ w. in_order cs ++ w) (open-head c [] [] e refl)
