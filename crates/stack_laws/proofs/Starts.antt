-- What holds before the first step.
use Rattle.std.proofs.Common.{◌≡◌, ℕ, zero, suc, ◌+◌, ◌<◌, ◌≤◌, true, false, List, [], ◌∷◌, length, get_or, map, replicate, refl, sym, ◌∙◌, arith}
use Rattle.std.specs.Prelude.{nat_lt}
use Rattle.std.specs.List.{All}
use Rattle.std.proofs.lemmas.Bool.{le-ltb}
use Rattle.std.proofs.lemmas.List.{length-map, length-replicate}
use Rattle.std.proofs.lemmas.List.Elements.{All-nil, All-replicate}
use Rattle.merge_queue.specs.Index.{total}
use Rattle.stack_laws.specs.Blocks.{times}
use Rattle.stack_laws.specs.Plan.{Plan, PlannedOp, no_request}
use Rattle.range_gate.specs.Gates.{is_waiting, has_ended}
use Rattle.stack_laws.specs.View.{OpView, all_true, no_op, waiting, start}
use Rattle.stack_laws.specs.Sound.{uncut, in_groups, in_queues, is_marked, due, HasBlocks, IsOpen, Sound}

pub start_all : (P : PlannedOp → OpView → Type 0) → ((r : PlannedOp) → P r (waiting r)) → P no_request no_op → (rs : List PlannedOp) (i : ℕ) →
    P (get_or rs i no_request) (get_or (map waiting rs) i no_op)
start_all P w n [] i = n
start_all P w n (r ∷ rs) zero = w r
start_all P w n (r ∷ rs) (suc i) = start_all P w n rs i

total-empty : {A : Type 0} (f : List A → ℕ) (n : ℕ) → f [] ≡ 0 → total f (replicate n []) ≡ 0
total-empty f zero h = refl
total-empty f (suc n) h = let e = total-empty f n h in omega arith

unmarked : (n k : ℕ) → get_or (replicate n false) k false ≡ false
unmarked zero k = refl
unmarked (suc n) zero = refl
unmarked (suc n) (suc k) = unmarked n k

abbrev PlacedWith : ℕ → ℕ → ℕ → PlannedOp → OpView → Type 0
PlacedWith i k q r o = times i k (uncut i r o) + (q + (0 + is_marked o k)) ≡ due r o k

waiting-placed : (i k q : ℕ) → q ≡ 0 → (r : PlannedOp) → PlacedWith i k q r (waiting r)
waiting-placed i k q z r = let e = unmarked r.count k in rw (e, z) refl

nothing-placed : (i k q : ℕ) → q ≡ 0 → PlacedWith i k q no_request no_op
nothing-placed i k q z = let e : nat_lt k 0 ≡ false = le-ltb k 0 (omega arith) in rw (e, z) refl

starts-waiting : (rs : List PlannedOp) (i : ℕ) → i < length (map waiting rs) → is_waiting (get_or (map waiting rs) i no_op).phase ≡ true
starts-waiting [] i h = absurd (omega arith)
starts-waiting (r ∷ rs) zero h = refl
starts-waiting (r ∷ rs) (suc i) h = starts-waiting rs i (omega arith)

pub starts : (p : Plan) → Sound p (start p)
starts p = record {
  ops = length-map p.requests waiting;
  devices = length-replicate p.devices [];
  one_place = λ i k. start_all (PlacedWith i k (in_queues i k (replicate p.devices []))) (waiting-placed i k _ (total-empty (in_groups i k) p.devices refl))
      (nothing-placed i k _ (total-empty (in_groups i k) p.devices refl)) p.requests i;
  lengths = λ i. start_all (λ r o. length o.settled ≡ r.count) (λ r. length-replicate r.count false) refl p.requests i;
  cuts = λ i. start_all (λ r o. o.cut ≤ r.count) (λ r. omega arith) (omega arith) p.requests i;
  fresh = λ i. start_all (λ r o. is_waiting o.phase ≡ true → o.cut ≡ 0) (λ r e. refl) (λ e. refl) p.requests i;
  ended = λ i. start_all (λ r o. has_ended o.phase ≡ true → all_true o.settled ≡ true) (λ r e. cc) (λ e. refl) p.requests i;
  order = λ j i h l w c. (let t = starts-waiting p.requests i l in let f : true ≡ false = sym t ∙ w in cc);
  groups = All-replicate (All HasBlocks) p.devices [] (All-nil HasBlocks);
  commands = All-nil (IsOpen p);
}
