-- The room that the rig must have is taken by what is sent, and by nothing else.
use Rattle.std.proofs.Common.{◌≡◌, ℕ, zero, suc, ◌+◌, ◌-◌, ◌<◌, ◌≤◌, true, false, not, ◌&&◌, eqb, List, [], ◌∷◌, length, get_or, set, map, replicate, refl, ⊎_elim, arith}
use Rattle.std.specs.Prelude.{if◌then◌else◌, nat_lt}
use Rattle.std.specs.List.{All}
use Rattle.std.proofs.lemmas.Bool.{cases_Bool, and_parts, not-true, ltb-true, eqb-false}
use Rattle.std.proofs.lemmas.List.Elements.{All-head, All-tail}
use Rattle.merge_queue.specs.Passed.{Fate}
use Rattle.merge_queue.proofs.Lists.{total-append, total-one, total-without}
use Rattle.merge_queue.proofs.Moves.{size-append}
use Rattle.stack_laws.specs.Blocks.{blocks, settled_count}
use Rattle.merge_queue.specs.Groups.{size, put, put_all, without, joined, may_follow}
use Rattle.merge_queue.specs.Index.{total}
use Rattle.stack_laws.specs.Plan.{Plan, PlannedOp, request_at}
use Rattle.stack_laws.specs.Pieces.{greatest_piece, cut_to, bio_of}
use Rattle.stack_laws.specs.Rests.{rests}
use Rattle.range_gate.specs.declared.phase.Phase.TheVariants.{Admitted, Ended}
use Rattle.range_gate.specs.Gates.{is_waiting, none_conflicts}
use Rattle.stack_laws.specs.View.{View, OpView, Command, is_admitted, all_true, no_op, no_command, waiting, start, op_at, queue_at, group_at, command_at}
use Rattle.stack_laws.specs.Steps.{Step, End, Complete, Admit, Cut, Join, Send, unended, settle, can, step}
use Rattle.stack_laws.specs.Runs.{blocks_of_requests}
use Rattle.stack_laws.specs.Sound.{IsOpen, OnDevices, Answered, Sound}
use Rattle.stack_laws.specs.Measure.{over_ops, blocks_left}
use Rattle.stack_laws.specs.Room.{unmarked, unsettled, exchanges_left, untouched_in, frames_left, size_in, Accounted, exchanges_of, frames_of}
use Rattle.stack_laws.proofs.Counts.{total-set, length-blocks}
use Rattle.stack_laws.proofs.Queues.{total-put, total-put_all, total-joined}
use Rattle.stack_laws.proofs.Rests.{rests-size, length-settled}
use Rattle.stack_laws.proofs.Ops.{grows-settle, length-settle, unsettled-settle}
use Rattle.stack_laws.proofs.Keeps.{queue-there, command-there, op-there, open-command, piece-some, piece-within, cut-within, settle-room, settled_blocks, admitted-ended}
use Rattle.stack_laws.proofs.Enabled.{group-has, open-has, few-settled}
use Rattle.stack_laws.proofs.Measure.{over-set, over-same, left-grows, start-left, empty-queues, waits-rank}

-- both totals at once: of frames and of sizes
record Kept (p : Plan) (v w : View) (fs n : ℕ) : Type 0 where
  pub frames : frames_left p w + fs ≡ frames_left p v
  pub marks : unsettled w + n ≡ unsettled v
  pub sizes : over_ops blocks_left p.requests w.ops + (total (total size) w.queues + total size_in w.commands) + n
      ≡ over_ops blocks_left p.requests v.ops + (total (total size) v.queues + total size_in v.commands)

-- how many blocks a step settles
abbrev settles : View → Step → ℕ
settles v (End i) = 0
settles v (Complete j) = settled_count (command_at v j).fates
settles v (Admit i) = 0
settles v (Cut i) = 0
settles v (Join d i j) = 0
settles v (Send d i) = 0

same-marks : (ops : List OpView) (a : ℕ) (o : OpView) → a < length ops → unmarked o ≡ unmarked (get_or ops a no_op) → total unmarked (set ops a o) ≡ total unmarked ops
same-marks ops a o l e = let t = total-set unmarked ops a o no_op l in omega arith

open-sizes : (c : Command) → c.completed ≡ false → (untouched_in c ≡ length c.fates - settled_count c.fates) × (size_in c ≡ size c.bios)
open-sizes c h = rw h (refl, refl)

kept : (p : Plan) (v : View) (t : Step) (cut : ℕ) (fates : List Fate) → Sound p v → OnDevices p → can p v t ≡ true → Answered v t fates →
    Kept p v (step p v t cut fates) (frames_of t fates) (settles v t)
kept p v (End a) cut fates s on h f =
    let b = and_parts (is_admitted (op_at v a).phase) (all_true (op_at v a).settled) h in
    let l = op-there v a (admitted-ended (op_at v a).phase b.0) in
    let e = over-set blocks_left p.requests v.ops a (record (op_at v a) { phase = Ended }) s.ops l in
    let m = same-marks v.ops a (record (op_at v a) { phase = Ended }) l refl in
    record { frames = omega arith; marks = omega arith; sizes = omega arith }
kept p v (Complete j) cut fates s on h f =
    let c = not-true (command_at v j).completed h in
    let o = open-command p v j s c in
    let a = over-same blocks_left p.requests v.ops (settle (settled_blocks (command_at v j)) v.ops) (length-settle (settled_blocks (command_at v j)) v.ops) left-grows (λ i. grows-settle (settled_blocks (command_at v j)) v.ops i) in
    let q = total-set (total size) v.queues (command_at v j).dev (put_all (rests p (command_at v j).bios (command_at v j).fates) (queue_at v (command_at v j).dev)) [] (let d = s.devices in let e = o.device in omega arith) in
    let r = total-put_all size (rests p (command_at v j).bios (command_at v j).fates) (queue_at v (command_at v j).dev) in
    let z = rests-size p (command_at v j).bios (command_at v j).fates o.settles.each in
    let m = total-set size_in v.commands j (record (command_at v j) { completed = true }) no_command (command-there v j c) in
    let n = total-set untouched_in v.commands j (record (command_at v j) { completed = true }) no_command (command-there v j c) in
    let k = open-sizes (command_at v j) c in
    let k₀ = k.0 in
    let k₁ = k.1 in
    let y = o.settles.each in
    let u = unsettled-settle (settled_blocks (command_at v j)) v.ops (settle-room p v j s c) in
    let b = length-blocks (command_at v j).bios in
    let l = length-settled (blocks (command_at v j).bios) (command_at v j).fates (omega arith) in
    record { frames = omega arith; marks = omega arith; sizes = omega arith }
kept p v (Admit a) cut fates s on h f =
    let b = and_parts (is_waiting (op_at v a).phase) (nat_lt (length (unended v a)) 32 && none_conflicts p.conflicts a (unended v a)) h in
    let r = waits-rank (op_at v a).phase b.0 in
    let l = op-there v a r.1 in
    let e = over-set blocks_left p.requests v.ops a (record (op_at v a) { phase = if eqb (request_at p a).count 0 then Ended else Admitted }) s.ops l in
    let m = same-marks v.ops a (record (op_at v a) { phase = if eqb (request_at p a).count 0 then Ended else Admitted }) l refl in
    record { frames = omega arith; marks = omega arith; sizes = omega arith }
kept p v (Cut a) cut fates s on h f =
    let b = and_parts (is_admitted (op_at v a).phase) (nat_lt (op_at v a).cut (request_at p a).count) h in
    let l = op-there v a (admitted-ended (op_at v a).phase b.0) in
    let c = ltb-true (op_at v a).cut (request_at p a).count b.1 in
    let one = piece-some p a (op_at v a).cut in
    let most = piece-within p a (op_at v a).cut c in
    let small = cut-within cut (greatest_piece p a (op_at v a).cut) one in
    let n = cut_to cut (greatest_piece p a (op_at v a).cut) in
    let o : OpView = record (op_at v a) { cut = (op_at v a).cut + cut_to cut (greatest_piece p a (op_at v a).cut) } in
    let e = over-set blocks_left p.requests v.ops a (record (op_at v a) { cut = (op_at v a).cut + cut_to cut (greatest_piece p a (op_at v a).cut) }) s.ops l in
    let m = same-marks v.ops a (record (op_at v a) { cut = (op_at v a).cut + cut_to cut (greatest_piece p a (op_at v a).cut) }) l refl in
    let d = on a (op_at v a).cut c in
    let q = total-set (total size) v.queues (bio_of p a (op_at v a).cut n).dev (put (bio_of p a (op_at v a).cut n ∷ []) (queue_at v (bio_of p a (op_at v a).cut n).dev)) [] (let k = s.devices in omega arith) in
    let r = total-put size (bio_of p a (op_at v a).cut n ∷ []) (queue_at v (bio_of p a (op_at v a).cut n).dev) in
    record { frames = omega arith; marks = omega arith; sizes = omega arith }
kept p v (Join d i j) cut fates s on h f =
    let b = and_parts (nat_lt i (length (queue_at v d))) (nat_lt j (length (queue_at v d)) && (not (eqb i j) && may_follow p.limits (group_at v d i) (group_at v d j))) h in
    let c = and_parts (nat_lt j (length (queue_at v d))) (not (eqb i j) && may_follow p.limits (group_at v d i) (group_at v d j)) b.1 in
    let e = and_parts (not (eqb i j)) (may_follow p.limits (group_at v d i) (group_at v d j)) c.1 in
    let k = ltb-true i (length (queue_at v d)) b.0 in
    let t = total-set (total size) v.queues d (joined (queue_at v d) i j) [] (queue-there v d i k) in
    let u = total-joined size (queue_at v d) i j k (ltb-true j (length (queue_at v d)) c.0) (eqb-false i j (not-true (eqb i j) e.0)) in
    let z = size-append (group_at v d i) (group_at v d j) in
    record { frames = omega arith; marks = omega arith; sizes = omega arith }
kept p v (Send d i) cut fates s on h f =
    let k = ltb-true i (length (queue_at v d)) h in
    let t = total-set (total size) v.queues d (without i (queue_at v d)) [] (queue-there v d i k) in
    let u = total-without size (queue_at v d) i [] k in
    let c = total-append size_in v.commands (record { dev = d; bios = group_at v d i; fates = fates; completed = false } ∷ []) in
    let n = total-append untouched_in v.commands (record { dev = d; bios = group_at v d i; fates = fates; completed = false } ∷ []) in
    let y = f.each in
    let z = few-settled fates in
    record { frames = omega arith; marks = omega arith; sizes = omega arith }

-- ---- what the contracts say

pub frames-fall : (p : Plan) (v : View) (t : Step) (cut : ℕ) (fates : List Fate) → OnDevices p → Sound p v → can p v t ≡ true → Answered v t fates →
    frames_left p (step p v t cut fates) + frames_of t fates ≡ frames_left p v
frames-fall p v t cut fates on s h f = (kept p v t cut fates s on h f).frames

pub accounted-keeps : (p : Plan) (v : View) (t : Step) (cut : ℕ) (fates : List Fate) → OnDevices p → Sound p v → can p v t ≡ true → Answered v t fates →
    Accounted p v → Accounted p (step p v t cut fates)
accounted-keeps p v t cut fates on s h f a = let k = kept p v t cut fates s on h f in let m = k.marks in let z = k.sizes in omega arith

marks-start : (rs : List PlannedOp) → total unmarked (map waiting rs) ≡ blocks_of_requests rs
marks-start [] = refl
marks-start (r ∷ rs) = let e = marks-start rs in let f = none r.count in omega arith
  where
    none : (n : ℕ) → total (λ b. if b then 0 else 1) (replicate n false) ≡ n
    none zero = refl
    none (suc n) = let e = none n in omega arith

pub accounted-start : (p : Plan) → Accounted p (start p)
accounted-start p = let a = marks-start p.requests in let b = start-left p.requests in let c = empty-queues size p.devices in omega arith

-- each command in flight has a block
in-flight-has : (p : Plan) (cs : List Command) → All (IsOpen p) cs → total (λ c. if c.completed then 0 else 1) cs ≤ total size_in cs
in-flight-has p [] h = omega arith
in-flight-has p (c ∷ cs) h =
    let t = in-flight-has p cs (All-tail (IsOpen p) c cs h) in
    ⊎_elim
    (λ (e : c.completed ≡ true). rw e (omega arith))
    (λ (e : c.completed ≡ false). let o = open-has p c (All-head (IsOpen p) c cs h e) in rw e (omega arith))
    (cases_Bool c.completed)

open-flight : (c : Command) → c.completed ≡ false → (if c.completed then 0 else 1) ≡ suc 0
open-flight c h = rw h refl

pub exchanges-fall : (p : Plan) (v : View) (t : Step) (cut : ℕ) (fates : List Fate) → OnDevices p → Sound p v → Accounted p v → can p v t ≡ true → Answered v t fates →
    exchanges_left (step p v t cut fates) + exchanges_of t ≤ exchanges_left v
exchanges-fall p v (End a) cut fates on s b h f = let m = (kept p v (End a) cut fates s on h f).marks in omega arith
exchanges-fall p v (Admit a) cut fates on s b h f = let m = (kept p v (Admit a) cut fates s on h f).marks in omega arith
exchanges-fall p v (Cut a) cut fates on s b h f = let m = (kept p v (Cut a) cut fates s on h f).marks in omega arith
exchanges-fall p v (Join d i j) cut fates on s b h f = let m = (kept p v (Join d i j) cut fates s on h f).marks in omega arith
exchanges-fall p v (Complete j) cut fates on s b h f =
    let m = (kept p v (Complete j) cut fates s on h f).marks in
    let c = not-true (command_at v j).completed h in
    let o = (open-command p v j s c).settles.some in
    let n = total-set (λ (c : Command). if c.completed then 0 else 1) v.commands j (record (command_at v j) { completed = true }) no_command (command-there v j c) in
    let k = open-flight (command_at v j) c in
    omega arith
exchanges-fall p v (Send d i) cut fates on s b h f =
    let m = (kept p v (Send d i) cut fates s on h f).marks in
    let l = ltb-true i (length (queue_at v d)) h in
    let g = group-has p v d i s l in
    let n = total-append (λ (c : Command). if c.completed then 0 else 1) v.commands (record { dev = d; bios = group_at v d i; fates = fates; completed = false } ∷ []) in
    let k = in-flight-has p v.commands s.commands in
    let x = total-one size (queue_at v d) i [] l in
    let y = total-one (total size) v.queues d [] (queue-there v d i l) in
    omega arith
