-- Each step takes from what is left.
use Rattle.std.proofs.Common.{◌≡◌, ℕ, zero, suc, ◌+◌, ◌-◌, ◌*◌, ◌<◌, ◌≤◌, Bool, true, false, not, ◌&&◌, eqb, List, [], ◌∷◌, length, get_or, set, map, replicate, refl, ap, ◌∙◌, arith, length-append}
use Rattle.std.specs.Prelude.{if◌then◌else◌, nat_lt}
use Rattle.std.proofs.lemmas.Bool.{and_parts, not-true, ltb-true, eqb-false}
use Rattle.std.proofs.lemmas.List.{length-set}
use Rattle.merge_queue.specs.Passed.{Fate}
use Rattle.merge_queue.proofs.Lists.{total-append, total-without}
use Rattle.merge_queue.proofs.Moves.{size-append}
use Rattle.stack_laws.specs.Blocks.{blocks, settled_of}
use Rattle.merge_queue.specs.Groups.{size, Group, put, put_all, without, joined, may_follow}
use Rattle.merge_queue.specs.Index.{total}
use Rattle.stack_laws.specs.Plan.{Plan, PlannedOp, request_at, no_request}
use Rattle.stack_laws.specs.Pieces.{greatest_piece, cut_to, bio_of}
use Rattle.stack_laws.specs.Rests.{rests}
use Rattle.range_gate.specs.declared.phase.Phase.{Phase}
use Rattle.range_gate.specs.declared.phase.Phase.TheVariants.{Waiting, Admitted, Ended}
use Rattle.range_gate.specs.Gates.{is_waiting, has_ended, none_conflicts}
use Rattle.stack_laws.specs.View.{View, OpView, Command, is_admitted, all_true, no_op, no_command, waiting, start, op_at, queue_at, group_at, command_at}
use Rattle.stack_laws.specs.Steps.{Step, End, Complete, Admit, Cut, Join, Send, unended, can, step}
use Rattle.stack_laws.specs.Runs.{blocks_of_requests}
use Rattle.stack_laws.specs.Sound.{OnDevices, Answered, Sound}
use Rattle.stack_laws.specs.Measure.{rank, op_weight, blocks_left, over_ops, group_weight, command_weight, measure, command_sends, sends_left, StepsCounted}
use Rattle.stack_laws.proofs.Counts.{total-set}
use Rattle.stack_laws.proofs.Queues.{total-put, total-put_all, total-joined}
use Rattle.stack_laws.proofs.Rests.{rests-size, rests-length, runs_few}
use Rattle.stack_laws.proofs.Ops.{Grows, grows-settle, length-settle}
use Rattle.stack_laws.proofs.Keeps.{queue-there, command-there, op-there, open-command, piece-some, piece-within, cut-some, cut-within, admitted-ended}
use Rattle.stack_laws.proofs.Enabled.{group-has}

pub over-set : (f : PlannedOp → OpView → ℕ) (rs : List PlannedOp) (os : List OpView) (a : ℕ) (o : OpView) → length os ≡ length rs → a < length os →
    over_ops f rs (set os a o) + f (get_or rs a no_request) (get_or os a no_op) ≡ over_ops f rs os + f (get_or rs a no_request) o
over-set f [] [] a o l h = absurd (omega arith)
over-set f [] (x ∷ os) a o l h = absurd (omega arith)
over-set f (r ∷ rs) [] a o l h = absurd (omega arith)
over-set f (r ∷ rs) (x ∷ os) zero o l h = omega arith
over-set f (r ∷ rs) (x ∷ os) (suc a) o l h = let e = over-set f rs os a o (omega arith) (omega arith) in omega arith

-- ops with the same phases and cuts weigh the same
pub over-same : (f : PlannedOp → OpView → ℕ) (rs : List PlannedOp) (os qs : List OpView) → length qs ≡ length os →
    ((r : PlannedOp) (o q : OpView) → Grows o q → f r q ≡ f r o) → ((i : ℕ) → Grows (get_or os i no_op) (get_or qs i no_op)) → over_ops f rs qs ≡ over_ops f rs os
over-same f [] os qs l e g = refl
over-same f (r ∷ rs) [] [] l e g = refl
over-same f (r ∷ rs) [] (q ∷ qs) l e g = absurd (omega arith)
over-same f (r ∷ rs) (o ∷ os) [] l e g = absurd (omega arith)
over-same f (r ∷ rs) (o ∷ os) (q ∷ qs) l e g = let h = e r o q (g 0) in let t = over-same f rs os qs (omega arith) e (λ i. g (suc i)) in omega arith

weight-grows : (r : PlannedOp) (o q : OpView) → Grows o q → op_weight r q ≡ op_weight r o
weight-grows r o q g = ap (λ h. rank h + 5 * (r.count - q.cut)) g.phase ∙ ap (λ n. rank o.phase + 5 * (r.count - n)) g.cut

pub left-grows : (r : PlannedOp) (o q : OpView) → Grows o q → blocks_left r q ≡ blocks_left r o
left-grows r o q g = ap (λ n. r.count - n) g.cut

admitted-rank : (h : Phase) → is_admitted h ≡ true → rank h ≡ 1
admitted-rank Waiting e = cc
admitted-rank Admitted e = refl
admitted-rank Ended e = cc

pub waits-rank : (h : Phase) → is_waiting h ≡ true → (rank h ≡ 2) × (has_ended h ≡ false)
waits-rank Waiting e = (refl, refl)
waits-rank Admitted e = cc
waits-rank Ended e = cc

admit-rank : (b : Bool) → rank (if b then Ended else Admitted) ≤ 1
admit-rank true = omega arith
admit-rank false = omega arith

weights : (gs : List Group) → total group_weight gs ≡ 3 * total size gs + length gs
weights [] = refl
weights (g ∷ gs) = let e = weights gs in omega arith

open-weight : (c : Command) → c.completed ≡ false → (command_weight c ≡ 3 * size c.bios) × (command_sends c ≡ size c.bios - 1)
open-weight c h = rw h (refl, refl)

pub falls : (p : Plan) (v : View) (t : Step) (cut : ℕ) (fates : List Fate) → Sound p v → OnDevices p → can p v t ≡ true → Answered v t fates →
    measure p (step p v t cut fates) + 1 ≤ measure p v
falls p v (End a) cut fates s on h f =
    let b = and_parts (is_admitted (op_at v a).phase) (all_true (op_at v a).settled) h in
    let l = op-there v a (admitted-ended (op_at v a).phase b.0) in
    let r = admitted-rank (op_at v a).phase b.0 in
    let e = over-set op_weight p.requests v.ops a (record (op_at v a) { phase = Ended }) s.ops l in
    omega arith
falls p v (Complete j) cut fates s on h f =
    let c = not-true (command_at v j).completed h in
    let o = open-command p v j s c in
    let a = over-same op_weight p.requests v.ops (step p v (Complete j) cut fates).ops (length-settle (settled_of (blocks (command_at v j).bios) (command_at v j).fates) v.ops) weight-grows (λ i. grows-settle (settled_of (blocks (command_at v j).bios) (command_at v j).fates) v.ops i) in
    let q = total-set (total group_weight) v.queues (command_at v j).dev (put_all (rests p (command_at v j).bios (command_at v j).fates) (queue_at v (command_at v j).dev)) [] (let d = s.devices in let e = o.device in omega arith) in
    let r = total-put_all group_weight (rests p (command_at v j).bios (command_at v j).fates) (queue_at v (command_at v j).dev) in
    let w = weights (rests p (command_at v j).bios (command_at v j).fates) in
    let z = rests-size p (command_at v j).bios (command_at v j).fates o.settles.each in
    let n = rests-length p (command_at v j).bios (command_at v j).fates in
    let u = runs_few (command_at v j).fates in
    let y = o.settles.some in
    let m = total-set command_weight v.commands j (record (command_at v j) { completed = true }) no_command (command-there v j c) in
    let k = (open-weight (command_at v j) c).0 in
    omega arith
falls p v (Admit a) cut fates s on h f =
    let b = and_parts (is_waiting (op_at v a).phase) (nat_lt (length (unended v a)) 32 && none_conflicts p.conflicts a (unended v a)) h in
    let r = waits-rank (op_at v a).phase b.0 in
    let l = op-there v a r.1 in
    let k = r.0 in
    let n = admit-rank (eqb (request_at p a).count 0) in
    let e = over-set op_weight p.requests v.ops a (record (op_at v a) { phase = if eqb (request_at p a).count 0 then Ended else Admitted }) s.ops l in
    omega arith
falls p v (Cut a) cut fates s on h f =
    let b = and_parts (is_admitted (op_at v a).phase) (nat_lt (op_at v a).cut (request_at p a).count) h in
    let l = op-there v a (admitted-ended (op_at v a).phase b.0) in
    let c = ltb-true (op_at v a).cut (request_at p a).count b.1 in
    let one = piece-some p a (op_at v a).cut in
    let most = piece-within p a (op_at v a).cut c in
    let some = cut-some cut (greatest_piece p a (op_at v a).cut) one in
    let small = cut-within cut (greatest_piece p a (op_at v a).cut) one in
    let n = cut_to cut (greatest_piece p a (op_at v a).cut) in
    let e = over-set op_weight p.requests v.ops a (record (op_at v a) { cut = (op_at v a).cut + cut_to cut (greatest_piece p a (op_at v a).cut) }) s.ops l in
    let d = on a (op_at v a).cut c in
    let q = total-set (total group_weight) v.queues (bio_of p a (op_at v a).cut n).dev (put (bio_of p a (op_at v a).cut n ∷ []) (queue_at v (bio_of p a (op_at v a).cut n).dev)) [] (let k = s.devices in omega arith) in
    let r = total-put group_weight (bio_of p a (op_at v a).cut n ∷ []) (queue_at v (bio_of p a (op_at v a).cut n).dev) in
    omega arith
falls p v (Join d i j) cut fates s on h f =
    let b = and_parts (nat_lt i (length (queue_at v d))) (nat_lt j (length (queue_at v d)) && (not (eqb i j) && may_follow p.limits (group_at v d i) (group_at v d j))) h in
    let c = and_parts (nat_lt j (length (queue_at v d))) (not (eqb i j) && may_follow p.limits (group_at v d i) (group_at v d j)) b.1 in
    let e = and_parts (not (eqb i j)) (may_follow p.limits (group_at v d i) (group_at v d j)) c.1 in
    let k = ltb-true i (length (queue_at v d)) b.0 in
    let t = total-set (total group_weight) v.queues d (joined (queue_at v d) i j) [] (queue-there v d i k) in
    let u = total-joined group_weight (queue_at v d) i j k (ltb-true j (length (queue_at v d)) c.0) (eqb-false i j (not-true (eqb i j) e.0)) in
    let z = size-append (group_at v d i) (group_at v d j) in
    omega arith
falls p v (Send d i) cut fates s on h f =
    let k = ltb-true i (length (queue_at v d)) h in
    let t = total-set (total group_weight) v.queues d (without i (queue_at v d)) [] (queue-there v d i k) in
    let u = total-without group_weight (queue_at v d) i [] k in
    let c = total-append command_weight v.commands (record { dev = d; bios = group_at v d i; fates = fates; completed = false } ∷ []) in
    omega arith

pub fewer : (p : Plan) (v : View) (t : Step) (cut : ℕ) (fates : List Fate) → Sound p v → OnDevices p → can p v t ≡ true → Answered v t fates →
    length (step p v t cut fates).commands + sends_left p (step p v t cut fates) ≤ length v.commands + sends_left p v
fewer p v (End a) cut fates s on h f =
    let b = and_parts (is_admitted (op_at v a).phase) (all_true (op_at v a).settled) h in
    let l = op-there v a (admitted-ended (op_at v a).phase b.0) in
    let e = over-set blocks_left p.requests v.ops a (record (op_at v a) { phase = Ended }) s.ops l in
    omega arith
fewer p v (Complete j) cut fates s on h f =
    let c = not-true (command_at v j).completed h in
    let o = open-command p v j s c in
    let a = over-same blocks_left p.requests v.ops (step p v (Complete j) cut fates).ops (length-settle (settled_of (blocks (command_at v j).bios) (command_at v j).fates) v.ops) left-grows (λ i. grows-settle (settled_of (blocks (command_at v j).bios) (command_at v j).fates) v.ops i) in
    let q = total-set (total size) v.queues (command_at v j).dev (put_all (rests p (command_at v j).bios (command_at v j).fates) (queue_at v (command_at v j).dev)) [] (let d = s.devices in let e = o.device in omega arith) in
    let r = total-put_all size (rests p (command_at v j).bios (command_at v j).fates) (queue_at v (command_at v j).dev) in
    let z = rests-size p (command_at v j).bios (command_at v j).fates o.settles.each in
    let y = o.settles.some in
    let m = total-set command_sends v.commands j (record (command_at v j) { completed = true }) no_command (command-there v j c) in
    let k = (open-weight (command_at v j) c).1 in
    let n = length-set v.commands j (record (command_at v j) { completed = true }) in
    omega arith
fewer p v (Admit a) cut fates s on h f =
    let b = and_parts (is_waiting (op_at v a).phase) (nat_lt (length (unended v a)) 32 && none_conflicts p.conflicts a (unended v a)) h in
    let r = waits-rank (op_at v a).phase b.0 in
    let l = op-there v a r.1 in
    let e = over-set blocks_left p.requests v.ops a (record (op_at v a) { phase = if eqb (request_at p a).count 0 then Ended else Admitted }) s.ops l in
    omega arith
fewer p v (Cut a) cut fates s on h f =
    let b = and_parts (is_admitted (op_at v a).phase) (nat_lt (op_at v a).cut (request_at p a).count) h in
    let l = op-there v a (admitted-ended (op_at v a).phase b.0) in
    let c = ltb-true (op_at v a).cut (request_at p a).count b.1 in
    let one = piece-some p a (op_at v a).cut in
    let most = piece-within p a (op_at v a).cut c in
    let small = cut-within cut (greatest_piece p a (op_at v a).cut) one in
    let n = cut_to cut (greatest_piece p a (op_at v a).cut) in
    let e = over-set blocks_left p.requests v.ops a (record (op_at v a) { cut = (op_at v a).cut + cut_to cut (greatest_piece p a (op_at v a).cut) }) s.ops l in
    let d = on a (op_at v a).cut c in
    let q = total-set (total size) v.queues (bio_of p a (op_at v a).cut n).dev (put (bio_of p a (op_at v a).cut n ∷ []) (queue_at v (bio_of p a (op_at v a).cut n).dev)) [] (let k = s.devices in omega arith) in
    let r = total-put size (bio_of p a (op_at v a).cut n ∷ []) (queue_at v (bio_of p a (op_at v a).cut n).dev) in
    omega arith
fewer p v (Join d i j) cut fates s on h f =
    let b = and_parts (nat_lt i (length (queue_at v d))) (nat_lt j (length (queue_at v d)) && (not (eqb i j) && may_follow p.limits (group_at v d i) (group_at v d j))) h in
    let c = and_parts (nat_lt j (length (queue_at v d))) (not (eqb i j) && may_follow p.limits (group_at v d i) (group_at v d j)) b.1 in
    let e = and_parts (not (eqb i j)) (may_follow p.limits (group_at v d i) (group_at v d j)) c.1 in
    let k = ltb-true i (length (queue_at v d)) b.0 in
    let t = total-set (total size) v.queues d (joined (queue_at v d) i j) [] (queue-there v d i k) in
    let u = total-joined size (queue_at v d) i j k (ltb-true j (length (queue_at v d)) c.0) (eqb-false i j (not-true (eqb i j) e.0)) in
    let z = size-append (group_at v d i) (group_at v d j) in
    omega arith
fewer p v (Send d i) cut fates s on h f =
    let k = ltb-true i (length (queue_at v d)) h in
    let g = group-has p v d i s k in
    let t = total-set (total size) v.queues d (without i (queue_at v d)) [] (queue-there v d i k) in
    let u = total-without size (queue_at v d) i [] k in
    let c = total-append command_sends v.commands (record { dev = d; bios = group_at v d i; fates = fates; completed = false } ∷ []) in
    let n = length-append v.commands (record { dev = d; bios = group_at v d i; fates = fates; completed = false } ∷ []) in
    omega arith

-- ---- the first view

start-weight : (rs : List PlannedOp) → over_ops op_weight rs (map waiting rs) ≡ 2 * length rs + 5 * blocks_of_requests rs
start-weight [] = refl
start-weight (r ∷ rs) = let e = start-weight rs in let f : r.count - 0 ≡ r.count = omega arith in rw f (omega arith)

pub start-left : (rs : List PlannedOp) → over_ops blocks_left rs (map waiting rs) ≡ blocks_of_requests rs
start-left [] = refl
start-left (r ∷ rs) = let e = start-left rs in let f : r.count - 0 ≡ r.count = omega arith in rw f (omega arith)

pub empty-queues : (f : Group → ℕ) (n : ℕ) → total (total f) (replicate n []) ≡ 0
empty-queues f zero = refl
empty-queues f (suc n) = let e = empty-queues f n in omega arith

pub counted-start : (p : Plan) → StepsCounted p (start p)
counted-start p = record {
  steps = let w = start-weight p.requests in let e = empty-queues group_weight p.devices in omega arith;
  sends = let w = start-left p.requests in let e = empty-queues size p.devices in omega arith;
}

steps-one : (p : Plan) (v : View) (t : Step) (cut : ℕ) (fates : List Fate) → (step p v t cut fates).steps ≡ suc v.steps
steps-one p v t cut fates = refl

pub counted-keeps : (p : Plan) (v : View) (t : Step) (cut : ℕ) (fates : List Fate) → Sound p v → OnDevices p → can p v t ≡ true → Answered v t fates →
    StepsCounted p v → StepsCounted p (step p v t cut fates)
counted-keeps p v t cut fates s on h f c = record {
  steps = let e = falls p v t cut fates s on h f in let a = c.steps in let o = steps-one p v t cut fates in omega arith;
  sends = let e = fewer p v t cut fates s on h f in let a = c.sends in omega arith;
}
