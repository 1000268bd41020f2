-- Every block of a script has a label of its own, so what stands on record of it is found by its label, in whatever order.
use Rattle.std.proofs.Common.{◌≡◌, ◌<◌, ◌≤◌, ◌+◌, ◌%◌, ◌^◌, ℕ, zero, suc, Bool, true, false, ◌&&◌, eqb, if◌then◌else◌, List, [], ◌∷◌, ◌++◌, map, Option, Some, None, refl, sym, ap, subst, ◌∙◌, arith}
use Rattle.std.specs.Prelude.{IfSome}
use Rattle.std.specs.List.{AllByRecursion as Each}
use Rattle.std.proofs.lemmas.Bool.{eq-eqb, eqb-true, eqb-false, ne_eqb}
use Rattle.fault_schedule.specs.declared.Label.{Label}
use Rattle.integrity_payload.specs.declared.payload.Owner.{Owner}
use Rattle.integrity_payload.specs.declared.payload.Owner.TheVariants.{Block as OfBlock, App as OfApp}
use Rattle.walk_laws.specs.Passed.{Op, Fetch, FetchPi, Fill, Overwrite, Put, Seal, Show, Wait, Write, WritePi, Act, State, act, tell, ActAnswer, AskedBlock, Sent, read_by, written_by, Route, plain, plain_tells, Delivers, Spoils, Stops, WayIn, Fails, Refuses, Stores, WayOut}
use Rattle.walk_laws.specs.ScriptWalk.{act_of, acts_from, acts_of}
use Rattle.walk_laws.specs.Settings.{Setting, block_of, route}
use Rattle.walk_laws.specs.Steps.{Reads, Seals, Step, Writes, WritesPi, body_of, each_from, frame_at, tuple_of}
use Rattle.run_laws.specs.BackedRun.{Owns}
use Rattle.run_laws.specs.Records.{Mixed, NoTwo, find, is_labelled, put_sent, sents}

pub tells_append : (xs ys : List (Act ActAnswer)) (s : State) → plain_tells act tell (xs ++ ys) s ≡ plain_tells act tell xs s ++ plain_tells act tell ys (plain act xs s)
tells_append [] ys s = refl
tells_append (x ∷ xs) ys s = ap (λ rest. tell x s ∷ rest) (tells_append xs ys (act x s))

pub each_first : {X : Type 0} (P : X → Type 0) (xs ys : List X) → Each P (xs ++ ys) → Each P xs
each_first P [] ys h = tt
each_first P (x ∷ xs) ys h = (h.0, each_first P xs ys h.1)

pub each_other : {X : Type 0} (P : X → Type 0) (xs ys : List X) → Each P (xs ++ ys) → Each P ys
each_other P [] ys h = h
each_other P (x ∷ xs) ys h = each_other P xs ys h.1

pub each_both : {X : Type 0} (P : X → Type 0) (xs ys : List X) → Each P xs → Each P ys → Each P (xs ++ ys)
each_both P [] ys h k = k
each_both P (x ∷ xs) ys h k = (h.0, each_both P xs ys h.1 k)

-- what stands on record of a block has its label, direction and place
abbrev pub Proper : ActAnswer → Type 0
Proper a = IfSome a.sent (λ e. (b : AskedBlock) × ((a.of ≡ Some b) × Owns e b))

abbrev same_label : Label → Label → Bool
same_label n k = eqb n.op k.op && eqb n.k k.k

-- none of these answers is of a block with this label
abbrev Far : Label → List ActAnswer → Type 0
Far n [] = Unit {0}
Far n (a ∷ answers) = IfSome a.of (λ b. same_label n b.route.label ≡ false) × Far n answers

abbrev AllFar : List ActAnswer → Type 0
AllFar [] = Unit {0}
AllFar (a ∷ answers) = IfSome a.of (λ b. Far b.route.label answers) × AllFar answers

flip_label : (n k : Label) → same_label n k ≡ false → same_label k n ≡ false
flip_label n k h = by (eqb n.op k.op) (eqb n.k k.k) refl refl h where
  swap : (i j : ℕ) → eqb i j ≡ false → eqb j i ≡ false
  swap i j e = ne_eqb j i (λ q. eqb-false i j e (sym q))

  and_false : (c : Bool) → (c && false) ≡ false
  and_false true = refl
  and_false false = refl

  by : (c d : Bool) → eqb n.op k.op ≡ c → eqb n.k k.k ≡ d → (c && d) ≡ false → same_label k n ≡ false
  by false d p q h = ap (λ c. c && eqb k.k n.k) (swap n.op k.op p)
  by true false p q h = ap (λ c. eqb k.op n.op && c) (swap n.k k.k q) ∙ and_false (eqb k.op n.op)
  by true true p q h = absurd (grind (arith, h))

labelled_itself : (n : Label) → same_label n n ≡ true
labelled_itself n =
    let p : eqb n.op n.op ≡ true = eq-eqb n.op n.op refl in
    let q : eqb n.k n.k ≡ true = eq-eqb n.k n.k refl in
    ap (λ c. c && eqb n.k n.k) p ∙ q

no_other : {X : Type 0} (c : Bool) (x : Option X) (rest : Option X) → c ≡ false → rest ≡ None → (if c then x else rest) ≡ None
no_other false x rest h k = k
no_other true x rest h k = absurd (grind (arith, h))

far_find : (n : Label) (answers : List ActAnswer) → Far n answers → Each Proper answers → find n (sents answers) ≡ None
far_find n [] f p = refl
far_find n (a ∷ answers) f p = by (far_find n answers f.1 p.1) a.sent a.of f.0 p.0 where
  by : find n (sents answers) ≡ None → (s : Option Sent) (of : Option AskedBlock) → IfSome of (λ b. same_label n b.route.label ≡ false) → IfSome s (λ e. (b : AskedBlock) × ((of ≡ Some b) × Owns e b)) → find n (put_sent s (sents answers)) ≡ None
  by rest None of g q = rest
  by rest (Some e) of g q =
      let b = q.0 in
      let far : same_label n b.route.label ≡ false = subst (λ o. IfSome o (λ b. same_label n b.route.label ≡ false)) q.1.0 g in
      no_other (is_labelled n e) (Some e) (find n (sents answers)) (ap (λ x. same_label x n) q.1.1.label ∙ flip_label n b.route.label far) rest

once_sents : (answers : List ActAnswer) → AllFar answers → Each Proper answers → NoTwo (sents answers)
once_sents [] f p = tt
once_sents (a ∷ answers) f p = by (once_sents answers f.1 p.1) a.sent a.of f.0 p.0 where
  by : NoTwo (sents answers) → (s : Option Sent) (of : Option AskedBlock) → IfSome of (λ b. Far b.route.label answers) → IfSome s (λ e. (b : AskedBlock) × ((of ≡ Some b) × Owns e b)) → NoTwo (put_sent s (sents answers))
  by rest None of g q = rest
  by rest (Some e) of g q =
      let far = subst (λ o. IfSome o (λ b. Far b.route.label answers)) q.1.0 g in
      (ap (λ n. find n (sents answers)) q.1.1.label ∙ far_find q.0.route.label answers far p.1, rest)

-- what stands on record of a block is what its act put there
abbrev pub Filed : List Sent → ActAnswer → Type 0
Filed es a = IfSome a.of (λ b. find b.route.label es ≡ a.sent)

found_first : (n : Label) (e : Sent) (es : List Sent) → e.label ≡ n → find n (e ∷ es) ≡ Some e
found_first n e es h = ap (λ c. if c then Some e else find n es) (ap (λ x. same_label x n) h ∙ labelled_itself n)

found_behind : (n : Label) (e : Sent) (es : List Sent) → is_labelled n e ≡ false → find n (e ∷ es) ≡ find n es
found_behind n e es h = ap (λ c. if c then Some e else find n es) h

-- the others are found as before
others_filed : (n : Label) (e : Sent) (es : List Sent) (answers : List ActAnswer) → e.label ≡ n → Far n answers → Each (Filed es) answers → Each (Filed (e ∷ es)) answers
others_filed n e es [] h f k = tt
others_filed n e es (a ∷ answers) h f k = (by a.of f.0 k.0, others_filed n e es answers h f.1 k.1) where
  by : (of : Option AskedBlock) → IfSome of (λ b. same_label n b.route.label ≡ false) → IfSome of (λ b. find b.route.label es ≡ a.sent) → IfSome of (λ b. find b.route.label (e ∷ es) ≡ a.sent)
  by None g q = tt
  by (Some b) g q = found_behind b.route.label e es (ap (λ x. same_label x b.route.label) h ∙ g) ∙ q

filed_sents : (answers : List ActAnswer) → AllFar answers → Each Proper answers → Each (Filed (sents answers)) answers
filed_sents [] f p = tt
filed_sents (a ∷ answers) f p = by (filed_sents answers f.1 p.1) a.sent a.of f.0 p.0 where
  by : Each (Filed (sents answers)) answers → (s : Option Sent) (of : Option AskedBlock) → IfSome of (λ b. Far b.route.label answers) → IfSome s (λ e. (b : AskedBlock) × ((of ≡ Some b) × Owns e b)) →
      IfSome of (λ b. find b.route.label (put_sent s (sents answers)) ≡ s) × Each (Filed (put_sent s (sents answers))) answers
  by rest None None g q = (tt, rest)
  by rest None (Some b) g q = (far_find b.route.label answers g p.1, rest)
  by rest (Some e) of g q =
      let b = q.0 in
      let far = subst (λ o. IfSome o (λ b. Far b.route.label answers)) q.1.0 g in (
        subst (λ o. IfSome o (λ b. find b.route.label (e ∷ sents answers) ≡ Some e)) (sym q.1.0) (found_first b.route.label e (sents answers) q.1.1.label),
        others_filed b.route.label e (sents answers) answers q.1.1.label far rest,
      )

-- A list in another order finds the same.
skip : (n : Label) (before after : List Sent) (x : Sent) → is_labelled n x ≡ false → find n (before ++ (x ∷ after)) ≡ find n (before ++ after)
skip n [] after x h = found_behind n x after h
skip n (y ∷ before) after x h = ap (λ rest. if is_labelled n y then Some y else rest) (skip n before after x h)

first_none : (n : Label) (c : Bool) (y : Sent) (rest : Option Sent) → (if c then Some y else rest) ≡ None → (c ≡ false) × (rest ≡ None)
first_none n false y rest h = (refl, h)
first_none n true y rest h = absurd (grind (arith, h))

found_there : (before after : List Sent) (x : Sent) → find x.label (before ++ after) ≡ None → find x.label (before ++ (x ∷ after)) ≡ Some x
found_there [] after x h = found_first x.label x after refl
found_there (y ∷ before) after x h =
    let k = first_none x.label (is_labelled x.label y) y (find x.label (before ++ after)) h in
    ap (λ c. if c then Some y else find x.label (before ++ (x ∷ after))) k.0 ∙ found_there before after x k.1

once_there : (before after : List Sent) (x : Sent) → find x.label (before ++ after) ≡ None → NoTwo (before ++ after) → NoTwo (before ++ (x ∷ after))
once_there [] after x h k = (h, k)
once_there (y ∷ before) after x h k =
    let p = first_none x.label (is_labelled x.label y) y (find x.label (before ++ after)) h in
    (skip y.label before after x (flip_label y.label x.label p.0) ∙ k.0, once_there before after x p.1 k.1)

same_labels : (n k : Label) → same_label n k ≡ true → n ≡ k
same_labels n k h = by (eqb n.op k.op) (eqb n.k k.k) refl refl h where
  one : (a a' b b' : ℕ) → a ≡ a' → b ≡ b' → let left : Label = record { op = a; k = b } in let right : Label = record { op = a'; k = b' } in left ≡ right
  one a a' b b' p q = cc

  by : (c d : Bool) → eqb n.op k.op ≡ c → eqb n.k k.k ≡ d → (c && d) ≡ true → n ≡ k
  by true true p q h = one n.op k.op n.k k.k (eqb-true n.op k.op p) (eqb-true n.k k.k q)
  by true false p q h = absurd (grind (arith, h))
  by false d p q h = absurd (grind (arith, h))

record Same (xs ys : List Sent) : Type 0 where
  finds : (n : Label) → find n ys ≡ find n xs
  once : NoTwo ys

mixed_same : (xs ys : List Sent) → Mixed xs ys → NoTwo xs → Same xs ys
mixed_same [] ys h k = record { finds = λ n. ap (find n) h; once = rw h tt }
mixed_same (x ∷ xs) ys h k =
    let before = h.0 in
    let after = h.1.0 in
    let rest = mixed_same xs (before ++ after) h.1.1.1 k.1 in
    let none : find x.label (before ++ after) ≡ None = rest.finds x.label ∙ k.0 in
    record {
      finds = λ n. ap (find n) h.1.1.0 ∙ at n (is_labelled n x) refl before after rest.finds none;
      once = rw h.1.1.0 (once_there before after x none rest.once);
    }
  where
    at : (n : Label) (c : Bool) → is_labelled n x ≡ c → (before after : List Sent) → ((n : Label) → find n (before ++ after) ≡ find n xs) → find x.label (before ++ after) ≡ None → find n (before ++ (x ∷ after)) ≡ (if is_labelled n x then Some x else find n xs)
    at n true e before after finds none =
        let same : x.label ≡ n = same_labels x.label n e in
        subst (λ k. find k (before ++ (x ∷ after)) ≡ Some x) same (found_there before after x none) ∙ sym (ap (λ c. if c then Some x else find n xs) e)
    at n false e before after finds none = skip n before after x e ∙ finds n ∙ sym (ap (λ c. if c then Some x else find n xs) e)

-- the blocks of an op are numbered from k on
abbrev Numbered : ℕ → ℕ → List ActAnswer → Type 0
Numbered i k [] = Unit {0}
Numbered i k (a ∷ answers) = IfSome a.of (λ b. (b.route.label.op ≡ i) × (b.route.label.k ≡ k)) × Numbered i (suc k) answers

-- these are of ops from i on
abbrev FromOp : ℕ → List ActAnswer → Type 0
FromOp i [] = Unit {0}
FromOp i (a ∷ answers) = IfSome a.of (λ b. i ≤ b.route.label.op) × FromOp i answers

abbrev label_at : ℕ → ℕ → Label
label_at i k = record { op = i; k = k }

numbered_far : (i j k : ℕ) (answers : List ActAnswer) → j < k → Numbered i k answers → Far (label_at i j) answers
numbered_far i j k [] l h = tt
numbered_far i j k (a ∷ answers) l h = (by a.of h.0, numbered_far i j (suc k) answers (omega (arith, l)) h.1) where
  and_false : (c : Bool) → (c && false) ≡ false
  and_false true = refl
  and_false false = refl

  by : (of : Option AskedBlock) → IfSome of (λ b. (b.route.label.op ≡ i) × (b.route.label.k ≡ k)) → IfSome of (λ b. same_label (label_at i j) b.route.label ≡ false)
  by None g = tt
  by (Some b) g = let e : eqb j b.route.label.k ≡ false = ne_eqb j b.route.label.k (λ q. omega (arith, l, q, g.1)) in ap (λ c. eqb i b.route.label.op && c) e ∙ and_false (eqb i b.route.label.op)

from_far : (i k next : ℕ) (answers : List ActAnswer) → i < next → FromOp next answers → Far (label_at i k) answers
from_far i k next [] l h = tt
from_far i k next (a ∷ answers) l h = (by a.of h.0, from_far i k next answers l h.1) where
  by : (of : Option AskedBlock) → IfSome of (λ b. next ≤ b.route.label.op) → IfSome of (λ b. same_label (label_at i k) b.route.label ≡ false)
  by None g = tt
  by (Some b) g = let e : eqb i b.route.label.op ≡ false = ne_eqb i b.route.label.op (λ q. omega (arith, l, q, g)) in ap (λ c. c && eqb k b.route.label.k) e

far_both : (n : Label) (xs ys : List ActAnswer) → Far n xs → Far n ys → Far n (xs ++ ys)
far_both n [] ys h k = k
far_both n (x ∷ xs) ys h k = (h.0, far_both n xs ys h.1 k)

-- one op, then the others
ops_far : (i k : ℕ) (xs ys : List ActAnswer) → Numbered i k xs → FromOp (suc i) ys → AllFar ys → AllFar (xs ++ ys)
ops_far i k [] ys h f r = r
ops_far i k (a ∷ xs) ys h f r = (by a.of h.0, ops_far i (suc k) xs ys h.1 f r) where
  same : (b : AskedBlock) → b.route.label.op ≡ i → b.route.label.k ≡ k → label_at i k ≡ b.route.label
  same b p q = same_labels (label_at i k) b.route.label (let c : eqb i b.route.label.op ≡ true = eq-eqb i b.route.label.op (sym p) in let d : eqb k b.route.label.k ≡ true = eq-eqb k b.route.label.k (sym q) in ap (λ x. x && eqb k b.route.label.k) c ∙ d)

  by : (of : Option AskedBlock) → IfSome of (λ b. (b.route.label.op ≡ i) × (b.route.label.k ≡ k)) → IfSome of (λ b. Far b.route.label (xs ++ ys))
  by None g = tt
  by (Some b) g = subst (λ n. Far n (xs ++ ys)) (same b g.0 g.1) (far_both (label_at i k) xs ys (numbered_far i k (suc k) xs (omega arith) h.1) (from_far i k (suc i) ys (omega arith) f))

from_numbered : (i k : ℕ) (xs ys : List ActAnswer) → Numbered i k xs → FromOp (suc i) ys → FromOp i (xs ++ ys)
from_numbered i k [] ys h f = weaker ys f where
  weaker : (ys : List ActAnswer) → FromOp (suc i) ys → FromOp i ys
  weaker [] f = tt
  weaker (y ∷ ys) f = (by y.of f.0, weaker ys f.1) where
    by : (of : Option AskedBlock) → IfSome of (λ b. suc i ≤ b.route.label.op) → IfSome of (λ b. i ≤ b.route.label.op)
    by None g = tt
    by (Some b) g = omega (arith, g)
from_numbered i k (a ∷ xs) ys h f = (by a.of h.0, from_numbered i (suc k) xs ys h.1 f) where
  by : (of : Option AskedBlock) → IfSome of (λ b. (b.route.label.op ≡ i) × (b.route.label.k ≡ k)) → IfSome of (λ b. i ≤ b.route.label.op)
  by None g = tt
  by (Some b) g = omega (arith, g.0)

-- what an act answers as a block of a request
record Marked (i k : ℕ) (a : ActAnswer) : Type 0 where
  number : IfSome a.of (λ b. (b.route.label.op ≡ i) × (b.route.label.k ≡ k))
  proper : IfSome a.sent (λ e. (b : AskedBlock) × ((a.of ≡ Some b) × Owns e b))

write_marked : (r : Route) (way : WayOut) (back : List ℕ) (log : List (List ℕ)) → Marked r.label.op r.label.k (written_by r way back log).answer
write_marked r (Fails why) back log = record { number = (refl, refl); proper = tt }
write_marked r (Refuses why) back log = record { number = (refl, refl); proper = (record { route = r; reader = None }, (refl, record { label = refl; dir = refl; dev = refl; lba = refl })) }
write_marked r (Stores carried stored) back log = record { number = (refl, refl); proper = (record { route = r; reader = None }, (refl, record { label = refl; dir = refl; dev = refl; lba = refl })) }

read_marked : (r : Route) (owner : Owner) (way : WayIn) (size after : ℕ) → Marked r.label.op r.label.k (read_by r owner way size after).answer
read_marked r owner (Stops why) size after = record { number = (refl, refl); proper = (record { route = r; reader = Some owner }, (refl, record { label = refl; dir = refl; dev = refl; lba = refl })) }
read_marked r owner (Spoils why carried) size after = record { number = (refl, refl); proper = (record { route = r; reader = Some owner }, (refl, record { label = refl; dir = refl; dev = refl; lba = refl })) }
read_marked r owner (Delivers carried frame) size after = record { number = (refl, refl); proper = (record { route = r; reader = Some owner }, (refl, record { label = refl; dir = refl; dev = refl; lba = refl })) }

record Lined (i k : ℕ) (answers : List ActAnswer) : Type 0 where
  numbered : Numbered i k answers
  proper : Each Proper answers

module _ (m : Setting) where
  each_lined : (i : ℕ) (f : ℕ → Step) → ((k : ℕ) (s : State) → Marked i k (tell (act_of m (f k)) s)) → (k n : ℕ) (s : State) → Lined i k (plain_tells act tell (map (act_of m) (each_from k n f)) s)
  each_lined i f h k zero s = record { numbered = tt; proper = tt }
  each_lined i f h k (suc n) s =
      let rest = each_lined i f h (suc k) n (act (act_of m (f k)) s) in
      record { numbered = ((h k s).number, rest.numbered); proper = (proper_of (tell (act_of m (f k)) s) (h k s), rest.proper) } where
        proper_of : (a : ActAnswer) → Marked i k a → Proper a
        proper_of a g = g.proper

  op_lined : (i : ℕ) (op : Op) (s : State) → Lined i 0 (plain_tells act tell (acts_of m i op) s)
  op_lined i (Fill seg byte) s = record { numbered = (tt, tt); proper = (tt, tt) }
  op_lined i (Put page off values) s = record { numbered = (tt, tt); proper = (tt, tt) }
  op_lined i (Show seg) s = record { numbered = (tt, tt); proper = (tt, tt) }
  op_lined i (Seal n body tuples app rtag) s = each_lined i (λ k. Seals (body_of m.size body k) (tuple_of tuples k) app ((rtag + k) % 2 ^ 32)) (λ k t. record { number = tt; proper = tt }) 0 n s
  op_lined i (Write v n body app) s = each_lined i (λ k. Writes (block_of i v k) app (body_of m.size body k)) (λ k t. write_marked (route m (block_of i v k)) _ _ _) 0 n s
  op_lined i (Fetch v n body) s = each_lined i (λ k. Reads (block_of i v k) OfBlock (body_of m.size body k)) (λ k t. read_marked (route m (block_of i v k)) OfBlock _ _ _) 0 n s
  op_lined i (WritePi v n body tuples) s = each_lined i (λ k. WritesPi (block_of i v k) (frame_at m.size body tuples k)) (λ k t. write_marked (route m (block_of i v k)) _ _ _) 0 n s
  op_lined i (FetchPi v n body tuples) s = each_lined i (λ k. Reads (block_of i v k) OfApp (frame_at m.size body tuples k)) (λ k t. read_marked (route m (block_of i v k)) OfApp _ _ _) 0 n s
  op_lined i (Overwrite dev lba change) s = record { numbered = (tt, tt); proper = (tt, tt) }
  op_lined i Wait s = record { numbered = tt; proper = tt }

-- the answers of a script
pub record Script (i : ℕ) (answers : List ActAnswer) : Type 0 where
  pub far : AllFar answers
  pub from : FromOp i answers
  pub proper : Each Proper answers

pub script_lined : (m : Setting) (i : ℕ) (ops : List Op) (s : State) → Script i (plain_tells act tell (acts_from m i ops) s)
script_lined m i [] s = record { far = tt; from = tt; proper = tt }
script_lined m i (op ∷ ops) s =
    let acts = acts_of m i op in
    let first = op_lined m i op s in
    let rest = script_lined m (suc i) ops (plain act acts s) in
    let one = plain_tells act tell acts s in
    let other = plain_tells act tell (acts_from m (suc i) ops) (plain act acts s) in
    subst (Script i) (sym (tells_append acts (acts_from m (suc i) ops) s))
    (record {
      far = ops_far i 0 one other first.numbered rest.from rest.far;
      from = from_numbered i 0 one other first.numbered rest.from;
      proper = each_both Proper one other first.proper rest.proper;
    })

-- what stands on record is found there by its block's label, and no block has two
pub record IsFiled (es : List Sent) (answers : List ActAnswer) : Type 0 where
  pub once : NoTwo es
  pub filed : Each (Filed es) answers

pub filed_in : (i : ℕ) (answers : List ActAnswer) (es : List Sent) → Script i answers → Mixed (sents answers) es → IsFiled es answers
filed_in i answers es h x =
    let same = mixed_same (sents answers) es x (once_sents answers h.far h.proper) in
    record { once = same.once; filed = moved answers same.finds (filed_sents answers h.far h.proper) }
  where
    moved : (others : List ActAnswer) → ((n : Label) → find n es ≡ find n (sents answers)) → Each (Filed (sents answers)) others → Each (Filed es) others
    moved [] finds k = tt
    moved (a ∷ others) finds k = (by a.of k.0, moved others finds k.1) where
      by : (of : Option AskedBlock) → IfSome of (λ b. find b.route.label (sents answers) ≡ a.sent) → IfSome of (λ b. find b.route.label es ≡ a.sent)
      by None g = tt
      by (Some b) g = finds b.route.label ∙ g
