-- Where every block is good and every piece the greatest, no more is sent than there are greatest pieces.
use Rattle.std.proofs.Common.{◌≡◌, ℕ, zero, suc, ◌+◌, ◌-◌, ◌<◌, ◌≤◌, true, false, not, ◌&&◌, eqb, List, [], ◌∷◌, length, get_or, set, map, replicate, refl, ap, ⊎_elim, arith, length-append}
use Rattle.std.specs.Prelude.{if◌then◌else◌, nat_lt}
use Rattle.std.proofs.lemmas.Bool.{cases_Bool, and_parts, not-true, ltb-true, eqb-false, lt-ltb, le-ltb}
use Rattle.std.proofs.lemmas.List.{length-set}
use Rattle.std.proofs.lemmas.List.Elements.{All-nil, All-set, All-get_or, All-push}
use Rattle.merge_queue.specs.Passed.{Fate, Good, Bad, Untouched}
use Rattle.merge_queue.proofs.Lists.{total-without}
use Rattle.stack_laws.specs.Blocks.{blocks, settled_of, settled_count}
use Rattle.merge_queue.specs.Index.{total}
use Rattle.stack_laws.specs.Plan.{Plan, PlannedOp, request_at, no_request}
use Rattle.stack_laws.specs.Pieces.{greatest_piece, bio_of}
use Rattle.merge_queue.specs.Groups.{Group, put, put_all, without, joined, may_follow}
use Rattle.stack_laws.specs.Rests.{Run, rests, untouched_runs, with_place}
use Rattle.range_gate.specs.declared.phase.Phase.TheVariants.{Admitted, Ended}
use Rattle.range_gate.specs.Gates.{is_waiting, none_conflicts}
use Rattle.stack_laws.specs.View.{View, OpView, is_admitted, all_true, no_op, no_command, waiting, start, op_at, queue_at, group_at, command_at}
use Rattle.stack_laws.specs.Steps.{Step, End, Complete, Admit, Cut, Join, Send, unended, can, step}
use Rattle.stack_laws.specs.Sound.{OnDevices, Answered, Sound}
use Rattle.stack_laws.specs.Measure.{pieces_from, greatest_pieces, pieces_left, IsWhole, AnsweredWhole, Thrifty}
use Rattle.stack_laws.proofs.Counts.{total-set}
use Rattle.stack_laws.proofs.Queues.{total-put, total-put_all, total-joined}
use Rattle.stack_laws.proofs.Rests.{rests-length}
use Rattle.stack_laws.proofs.Ops.{grows-settle, length-settle}
use Rattle.stack_laws.proofs.Keeps.{queue-there, command-there, op-there, open-command, piece-some, admitted-ended}
use Rattle.stack_laws.proofs.Measure.{waits-rank}

-- ---- pieces

enough : (p : Plan) (i n m k : ℕ) → (request_at p i).count - k ≤ n → (request_at p i).count - k ≤ m → pieces_from p i n k ≡ pieces_from p i m k
enough p i zero zero k h l = refl
enough p i zero (suc m) k h l = let e : nat_lt k (request_at p i).count ≡ false = le-ltb k (request_at p i).count (omega arith) in rw e refl
enough p i (suc n) zero k h l = let e : nat_lt k (request_at p i).count ≡ false = le-ltb k (request_at p i).count (omega arith) in rw e refl
enough p i (suc n) (suc m) k h l =
    let g = piece-some p i k in
    let e = enough p i n m (k + greatest_piece p i k) (omega arith) (omega arith) in
    ap (λ x. if nat_lt k (request_at p i).count then suc x else 0) e

one-piece : (p : Plan) (i k : ℕ) → k < (request_at p i).count →
    pieces_from p i ((request_at p i).count - k) k ≡ suc (pieces_from p i ((request_at p i).count - (k + greatest_piece p i k)) (k + greatest_piece p i k))
one-piece p i k h = at ((request_at p i).count - k) (omega arith) (omega arith)
  where
    at : (n : ℕ) → 0 < n → (request_at p i).count - k ≤ n → pieces_from p i n k ≡ suc (pieces_from p i ((request_at p i).count - (k + greatest_piece p i k)) (k + greatest_piece p i k))
    at zero z l = absurd (omega arith)
    at (suc n) z l =
        let g = piece-some p i k in
        let e : nat_lt k (request_at p i).count ≡ true = lt-ltb k (request_at p i).count h in
        rw e (ap suc (enough p i n ((request_at p i).count - (k + greatest_piece p i k)) (k + greatest_piece p i k) (omega arith) (omega arith)))

left-set : (p : Plan) (i : ℕ) (rs : List PlannedOp) (os : List OpView) (a : ℕ) (o : OpView) → length os ≡ length rs → a < length os →
    pieces_left p i rs (set os a o) + pieces_from p (i + a) ((get_or rs a no_request).count - (get_or os a no_op).cut) (get_or os a no_op).cut
    ≡ pieces_left p i rs os + pieces_from p (i + a) ((get_or rs a no_request).count - o.cut) o.cut
left-set p i [] [] a o l h = absurd (omega arith)
left-set p i [] (x ∷ os) a o l h = absurd (omega arith)
left-set p i (r ∷ rs) [] a o l h = absurd (omega arith)
left-set p i (r ∷ rs) (x ∷ os) zero o l h = let e : i + 0 ≡ i = omega arith in rw e (omega arith)
left-set p i (r ∷ rs) (x ∷ os) (suc a) o l h = let e = left-set p (suc i) rs os a o (omega arith) (omega arith) in let f : i + suc a ≡ suc i + a = omega arith in rw f (omega arith)

left-same : (p : Plan) (i : ℕ) (rs : List PlannedOp) (os qs : List OpView) → length qs ≡ length os → ((i : ℕ) → (get_or qs i no_op).cut ≡ (get_or os i no_op).cut) →
    pieces_left p i rs qs ≡ pieces_left p i rs os
left-same p i [] os qs l g = refl
left-same p i (r ∷ rs) [] [] l g = refl
left-same p i (r ∷ rs) [] (q ∷ qs) l g = absurd (omega arith)
left-same p i (r ∷ rs) (o ∷ os) [] l g = absurd (omega arith)
left-same p i (r ∷ rs) (o ∷ os) (q ∷ qs) l g =
    let h : q.cut ≡ o.cut = g 0 in
    let t = left-same p (suc i) rs os qs (omega arith) (λ i. g (suc i)) in
    let e = ap (λ n. pieces_from p i (r.count - n) n) h in
    omega arith

left-start : (p : Plan) (i : ℕ) (rs : List PlannedOp) → pieces_left p i rs (map waiting rs) ≡ greatest_pieces p i rs
left-start p i [] = refl
left-start p i (r ∷ rs) = let e = left-start p (suc i) rs in let f : r.count - 0 ≡ r.count = omega arith in rw f (omega arith)

-- ---- no rests

length-with : (at : ℕ) (rs : List Run) → length (with_place at rs) ≤ length rs + 1
length-with at [] = omega arith
length-with at (r ∷ rs) =
    ⊎_elim (λ (z : eqb r.at (suc at) ≡ true). rw z (omega arith)) (λ (z : eqb r.at (suc at) ≡ false). rw z (omega arith)) (cases_Bool (eqb r.at (suc at)))

runs-unsettled : (at : ℕ) (fs : List Fate) → length (untouched_runs at fs) + settled_count fs ≤ length fs
runs-unsettled at [] = omega arith
runs-unsettled at (Good ∷ fs) = let e = runs-unsettled (suc at) fs in omega arith
runs-unsettled at ((Bad why) ∷ fs) = let e = runs-unsettled (suc at) fs in omega arith
runs-unsettled at (Untouched ∷ fs) = let e = runs-unsettled (suc at) fs in let l = length-with at (untouched_runs (suc at) fs) in omega arith

-- the number of groups of a queue: each is 1
ones : (xs : List Group) → total (λ g. 1) xs ≡ length xs
ones [] = refl
ones (x ∷ xs) = let e = ones xs in omega arith

length-put_all : (gs q : List Group) → length (put_all gs q) ≡ length gs + length q
length-put_all gs q = let a = ones (put_all gs q) in let b = ones gs in let c = ones q in let e = total-put_all (λ g. 1) gs q in omega arith

length-put : (g : Group) (q : List Group) → length (put g q) ≡ length q + 1
length-put g q = let a = ones (put g q) in let c = ones q in let e = total-put (λ g. 1) g q in omega arith

length-without : (i : ℕ) (q : List Group) → i < length q → length (without i q) + 1 ≡ length q
length-without i q h = let a = ones (without i q) in let c = ones q in let e = total-without (λ g. 1) q i [] h in omega arith

length-joined : (q : List Group) (i j : ℕ) → i < length q → j < length q → (i ≡ j → ⊥) → length (joined q i j) + 1 ≡ length q
length-joined q i j h l ne = let a = ones (joined q i j) in let c = ones q in let e = total-joined (λ g. 1) q i j h l ne in omega arith

-- ---- the steps

pub thrifty-start : (p : Plan) → Thrifty p (start p)
thrifty-start p = record {
  few = let w = left-start p 0 p.requests in let e = none p.devices in omega arith;
  whole = All-nil IsWhole;
}
  where
    none : (n : ℕ) → total {A = List Group} length (replicate n []) ≡ 0
    none zero = refl
    none (suc n) = let e = none n in omega arith

pub thrifty-keeps : (p : Plan) (v : View) (t : Step) (fates : List Fate) → Sound p v → OnDevices p → can p v t ≡ true → Answered v t fates → AnsweredWhole t fates →
    Thrifty p v → Thrifty p (step p v t 0 fates)
thrifty-keeps p v (End a) fates s on h f w y =
    let b = and_parts (is_admitted (op_at v a).phase) (all_true (op_at v a).settled) h in
    let l = op-there v a (admitted-ended (op_at v a).phase b.0) in
    let e = left-set p 0 p.requests v.ops a (record (op_at v a) { phase = Ended }) s.ops l in
    let z = y.few in
    record { few = omega arith; whole = y.whole }
thrifty-keeps p v (Complete j) fates s on h f w y =
    let c = not-true (command_at v j).completed h in
    let o = open-command p v j s c in
    let a = left-same p 0 p.requests v.ops (step p v (Complete j) 0 fates).ops (length-settle (settled_of (blocks (command_at v j).bios) (command_at v j).fates) v.ops) (λ i. (grows-settle (settled_of (blocks (command_at v j).bios) (command_at v j).fates) v.ops i).cut) in
    let q = total-set {A = List Group} length v.queues (command_at v j).dev (put_all (rests p (command_at v j).bios (command_at v j).fates) (queue_at v (command_at v j).dev)) [] (let d = s.devices in let e = o.device in omega arith) in
    let r = length-put_all (rests p (command_at v j).bios (command_at v j).fates) (queue_at v (command_at v j).dev) in
    let g = rests-length p (command_at v j).bios (command_at v j).fates in
    let u = runs-unsettled 0 (command_at v j).fates in
    let k : settled_count (command_at v j).fates ≡ length (command_at v j).fates = All-get_or IsWhole v.commands j no_command (command-there v j c) y.whole c in
    let n = length-set v.commands j (record (command_at v j) { completed = true }) in
    let z = y.few in
    record { few = omega arith; whole = All-set IsWhole v.commands j (record (command_at v j) { completed = true }) (λ e. let f : true ≡ false = e in cc) y.whole }
thrifty-keeps p v (Admit a) fates s on h f w y =
    let b = and_parts (is_waiting (op_at v a).phase) (nat_lt (length (unended v a)) 32 && none_conflicts p.conflicts a (unended v a)) h in
    let r = waits-rank (op_at v a).phase b.0 in
    let l = op-there v a r.1 in
    let e = left-set p 0 p.requests v.ops a (record (op_at v a) { phase = if eqb (request_at p a).count 0 then Ended else Admitted }) s.ops l in
    let z = y.few in
    record { few = omega arith; whole = y.whole }
thrifty-keeps p v (Cut a) fates s on h f w y =
    let b = and_parts (is_admitted (op_at v a).phase) (nat_lt (op_at v a).cut (request_at p a).count) h in
    let l = op-there v a (admitted-ended (op_at v a).phase b.0) in
    let c = ltb-true (op_at v a).cut (request_at p a).count b.1 in
    let n = greatest_piece p a (op_at v a).cut in
    let e = left-set p 0 p.requests v.ops a (record (op_at v a) { cut = (op_at v a).cut + greatest_piece p a (op_at v a).cut }) s.ops l in
    let k : 0 + a ≡ a = omega arith in
    let e₁ = rw k at e in
    let o = one-piece p a (op_at v a).cut c in
    let d = on a (op_at v a).cut c in
    let q = total-set {A = List Group} length v.queues (bio_of p a (op_at v a).cut n).dev (put (bio_of p a (op_at v a).cut n ∷ []) (queue_at v (bio_of p a (op_at v a).cut n).dev)) [] (let k = s.devices in omega arith) in
    let r = length-put (bio_of p a (op_at v a).cut n ∷ []) (queue_at v (bio_of p a (op_at v a).cut n).dev) in
    let z = y.few in
    record { few = omega arith; whole = y.whole }
thrifty-keeps p v (Join d i j) fates s on h f w y =
    let b = and_parts (nat_lt i (length (queue_at v d))) (nat_lt j (length (queue_at v d)) && (not (eqb i j) && may_follow p.limits (group_at v d i) (group_at v d j))) h in
    let c = and_parts (nat_lt j (length (queue_at v d))) (not (eqb i j) && may_follow p.limits (group_at v d i) (group_at v d j)) b.1 in
    let e = and_parts (not (eqb i j)) (may_follow p.limits (group_at v d i) (group_at v d j)) c.1 in
    let k = ltb-true i (length (queue_at v d)) b.0 in
    let t = total-set {A = List Group} length v.queues d (joined (queue_at v d) i j) [] (queue-there v d i k) in
    let u = length-joined (queue_at v d) i j k (ltb-true j (length (queue_at v d)) c.0) (eqb-false i j (not-true (eqb i j) e.0)) in
    let z = y.few in
    record { few = omega arith; whole = y.whole }
thrifty-keeps p v (Send d i) fates s on h f w y =
    let k = ltb-true i (length (queue_at v d)) h in
    let t = total-set {A = List Group} length v.queues d (without i (queue_at v d)) [] (queue-there v d i k) in
    let u = length-without i (queue_at v d) k in
    let n = length-append v.commands (record { dev = d; bios = group_at v d i; fates = fates; completed = false } ∷ []) in
    let z = y.few in
    record { few = omega arith; whole = All-push IsWhole v.commands (record { dev = d; bios = group_at v d i; fates = fates; completed = false }) y.whole (λ e. w) }
