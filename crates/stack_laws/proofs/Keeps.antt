-- Each step keeps what holds between two steps.
use Rattle.std.proofs.Common.{◌≡◌, ℕ, zero, suc, ◌+◌, ◌-◌, ◌<◌, ◌≤◌, Bool, true, false, not, ◌&&◌, eqb, List, [], ◌∷◌, ◌++◌, length, get_or, set, refl, sym, ap, ◌∙◌, ⊎_elim, arith, append-nil}
use Rattle.std.specs.Prelude.{if◌then◌else◌, nat_lt}
use Rattle.std.specs.List.{All}
use Rattle.std.proofs.lemmas.Bool.{cases_Bool, cases_eq, cases_lt, and_parts, not-true, eqb-true, eqb-false, ltb-true}
use Rattle.std.proofs.lemmas.List.{length-set, get_or_past}
use Rattle.std.proofs.lemmas.List.Elements.{All-set, All-get_or, All-push}
use Rattle.merge_queue.specs.Passed.{Bio, Fate}
use Rattle.merge_queue.proofs.Lists.{total-append, total-one, total-without}
use Rattle.stack_laws.specs.Blocks.{place_of, BlockId, run_of, blocks, times, is_block, settled_of, is_settled}
use Rattle.merge_queue.specs.Index.{total}
use Rattle.stack_laws.specs.Plan.{Plan, PlannedOp, request_at}
use Rattle.stack_laws.specs.Pieces.{greatest, fits, longest, greatest_piece, cut_to, bio_of}
use Rattle.merge_queue.specs.Groups.{Group, put, put_all, without, joined, may_follow}
use Rattle.stack_laws.specs.Rests.{rests}
use Rattle.range_gate.specs.declared.phase.Phase.{Phase}
use Rattle.range_gate.specs.declared.phase.Phase.TheVariants.{Waiting, Admitted, Ended}
use Rattle.range_gate.specs.Gates.{is_waiting, has_ended, none_conflicts}
use Rattle.stack_laws.specs.View.{View, OpView, Command, is_admitted, all_true, no_op, no_command, op_at, queue_at, group_at, command_at}
use Rattle.stack_laws.specs.Steps.{Step, End, Complete, Admit, Cut, Join, Send, can, unended, settle, step}
use Rattle.stack_laws.specs.Sound.{uncut, in_groups, in_queues, in_commands, is_marked, places, due, Settles, HasBlocks, Open, IsOpen, OnDevices, Answered, Sound}
use Rattle.stack_laws.proofs.Counts.{total-set, split_run, times-other, times-whole, blocks-append}
use Rattle.stack_laws.proofs.Queues.{total-put, total-put_all, total-joined, All-put, All-put_all, All-without, All-joined}
use Rattle.stack_laws.proofs.Rests.{rests-times, rests-have}
use Rattle.stack_laws.proofs.Ops.{AtSet, Same, Other, Past, at_set, Grows, grows-settle, length-settle, marks-settle, room}

-- ---- small facts

pub admitted-waits : (h : Phase) → is_admitted h ≡ true → is_waiting h ≡ false
admitted-waits Waiting e = cc
admitted-waits Admitted e = refl
admitted-waits Ended e = refl

pub waits-ended : (h : Phase) → is_waiting h ≡ true → has_ended h ≡ true → ⊥
waits-ended Waiting e f = cc
waits-ended Admitted e f = cc
waits-ended Ended e f = cc

admit-waits : (b : Bool) → is_waiting (if b then Ended else Admitted) ≡ false
admit-waits true = refl
admit-waits false = refl

admit-ended : (b : Bool) → has_ended (if b then Ended else Admitted) ≡ true → b ≡ true
admit-ended true h = refl
admit-ended false h = h

pub set_keeps : {A : Type 0} (P : ℕ → A → Type 0) (xs : List A) (a : ℕ) (x d : A) → ((i : ℕ) → P i (get_or xs i d)) → P a x → (i : ℕ) → P i (get_or (set xs a x) i d)
set_keeps P xs a x d h p i = from (at_set xs a x d i)
  where
    from : AtSet xs a x d i → P i (get_or (set xs a x) i d)
    from (Same e l q) = rw (q, e) p
    from (Other ne q) = rw q (h i)
    from (Past l q) = rw q (h i)

-- a queue with a group is one of the queues
pub queue-there : (v : View) (d i : ℕ) → i < length (queue_at v d) → d < length v.queues
queue-there v d i h =
    ⊎_elim
    (λ (l : d < length v.queues). l)
    (λ (l : length v.queues ≤ d). let e = ap length (get_or_past v.queues d [] l) in absurd (omega arith))
    (cases_lt d (length v.queues))

pub command-there : (v : View) (j : ℕ) → (command_at v j).completed ≡ false → j < length v.commands
command-there v j h =
    ⊎_elim
    (λ (l : j < length v.commands). l)
    (λ (l : length v.commands ≤ j). let e = ap (λ c. c.completed) (get_or_past v.commands j no_command l) in let f : true ≡ false = sym e ∙ h in cc)
    (cases_lt j (length v.commands))

pub op-there : (v : View) (i : ℕ) → has_ended (op_at v i).phase ≡ false → i < length v.ops
op-there v i h =
    ⊎_elim
    (λ (l : i < length v.ops). l)
    (λ (l : length v.ops ≤ i). let e = ap (λ o. has_ended o.phase) (get_or_past v.ops i no_op l) in let f : true ≡ false = sym e ∙ h in cc)
    (cases_lt i (length v.ops))

pub admitted-ended : (h : Phase) → is_admitted h ≡ true → has_ended h ≡ false
admitted-ended Waiting e = cc
admitted-ended Admitted e = refl
admitted-ended Ended e = cc

-- ---- pieces

greatest-some : (test : ℕ → Bool) (n : ℕ) → 1 ≤ greatest test n
greatest-some test zero = omega arith
greatest-some test (suc n) =
    let e = greatest-some test n in
    ⊎_elim (λ (z : test (suc n) ≡ true). rw z (omega arith)) (λ (z : test (suc n) ≡ false). rw z e) (cases_Bool (test (suc n)))

pub greatest-within : (test : ℕ → Bool) (n m : ℕ) → n ≤ m → 1 ≤ m → greatest test n ≤ m
greatest-within test zero m h k = k
greatest-within test (suc n) m h k =
    let e = greatest-within test n m (omega arith) k in
    ⊎_elim (λ (z : test (suc n) ≡ true). rw z h) (λ (z : test (suc n) ≡ false). rw z e) (cases_Bool (test (suc n)))

pub piece-some : (p : Plan) (i k : ℕ) → 1 ≤ greatest_piece p i k
piece-some p i k = greatest-some (fits p i k) (longest p i k)

pub piece-within : (p : Plan) (i k : ℕ) → k < (request_at p i).count → greatest_piece p i k ≤ (request_at p i).count - k
piece-within p i k h = greatest-within (fits p i k) (longest p i k) ((request_at p i).count - k) (omega arith) (omega arith)

pub cut-some : (c n : ℕ) → 1 ≤ n → 1 ≤ cut_to c n
cut-some zero n h = h
cut-some (suc c) n h = omega arith

pub cut-within : (c n : ℕ) → 1 ≤ n → cut_to c n ≤ n
cut-within zero n h = omega arith
cut-within (suc c) n h = omega arith

-- ---- one place

abbrev end-op : OpView → OpView
end-op o = record o { phase = Ended }

end-place : (p : Plan) (v : View) (a : ℕ) → Sound p v → is_admitted (op_at v a).phase ≡ true → (i k : ℕ) →
    places p (record v { ops = set v.ops a (end-op (op_at v a)) }) i k ≡ due (request_at p i) (get_or (set v.ops a (end-op (op_at v a))) i no_op) k
end-place p v a s h i k = from (at_set v.ops a (end-op (op_at v a)) no_op i)
  where
    from : AtSet v.ops a (end-op (op_at v a)) no_op i → places p (record v { ops = set v.ops a (end-op (op_at v a)) }) i k ≡ due (request_at p i) (get_or (set v.ops a (end-op (op_at v a))) i no_op) k
    from (Same e l q) = let z = s.one_place a k in let w = admitted-waits (op_at v a).phase h in rw (q, e) (rw w at z)
    from (Other ne q) = rw q (s.one_place i k)
    from (Past l q) = rw q (s.one_place i k)

abbrev admit-op : Plan → ℕ → OpView → OpView
admit-op p a o = record o { phase = if eqb (request_at p a).count 0 then Ended else Admitted }

admit-place : (p : Plan) (v : View) (a : ℕ) → Sound p v → is_waiting (op_at v a).phase ≡ true → (i k : ℕ) →
    places p (record v { ops = set v.ops a (admit-op p a (op_at v a)) }) i k ≡ due (request_at p i) (get_or (set v.ops a (admit-op p a (op_at v a))) i no_op) k
admit-place p v a s h i k = from (at_set v.ops a (admit-op p a (op_at v a)) no_op i)
  where
    from : AtSet v.ops a (admit-op p a (op_at v a)) no_op i →
        places p (record v { ops = set v.ops a (admit-op p a (op_at v a)) }) i k ≡ due (request_at p i) (get_or (set v.ops a (admit-op p a (op_at v a))) i no_op) k
    from (Same e l q) =
        let z : 0 + (in_queues a k v.queues + (in_commands a k v.commands + is_marked (op_at v a) k)) ≡ 0 = rw h at (s.one_place a k) in
        let w = admit-waits (eqb (request_at p a).count 0) in
        let f = s.fresh a h in
        let g : (request_at p a).count - 0 ≡ (request_at p a).count = omega arith in
        let t = times-whole a k (request_at p a).count in
        rw (q, e, w, f, g) (omega arith)
    from (Other ne q) = rw q (s.one_place i k)
    from (Past l q) = rw q (s.one_place i k)

-- a piece of n blocks leaves the uncut ones for its queue
abbrev cut-op : OpView → ℕ → OpView
cut-op o n = record o { cut = o.cut + n }

uncut-cut : (a k : ℕ) (r : PlannedOp) (o : OpView) (n : ℕ) → is_waiting o.phase ≡ false → n ≤ r.count - o.cut →
    times a k (uncut a r (cut-op o n)) + times a k (run_of a o.cut n) ≡ times a k (uncut a r o)
uncut-cut a k r o n w h =
    let f : r.count - o.cut ≡ n + (r.count - (o.cut + n)) = omega arith in
    let g = split_run a o.cut n (r.count - (o.cut + n)) (r.count - o.cut) f in
    let t = total-append (is_block a k) (run_of a o.cut n) (run_of a (o.cut + n) (r.count - (o.cut + n))) in
    rw (w, g) (omega arith)

queue-piece : (i k : ℕ) (qs : List (List Group)) (d : ℕ) (b : Bio) → d < length qs →
    in_queues i k (set qs d (put (b ∷ []) (get_or qs d []))) ≡ in_queues i k qs + times i k (run_of (place_of b.op) b.k b.count)
queue-piece i k qs d b h =
    let a = total-set (in_groups i k) qs d (put (b ∷ []) (get_or qs d [])) [] h in
    let c = total-put (λ g. times i k (blocks g)) (b ∷ []) (get_or qs d []) in
    let e = ap (times i k) (append-nil (run_of (place_of b.op) b.k b.count)) in
    omega arith

abbrev cut-view : Plan → View → ℕ → ℕ → View
cut-view p v a n = record v {
  ops = set v.ops a (cut-op (op_at v a) n);
  queues = set v.queues (bio_of p a (op_at v a).cut n).dev (put (bio_of p a (op_at v a).cut n ∷ []) (queue_at v (bio_of p a (op_at v a).cut n).dev));
}

cut-place : (p : Plan) (v : View) (a n : ℕ) → Sound p v → is_admitted (op_at v a).phase ≡ true → n ≤ (request_at p a).count - (op_at v a).cut →
    (bio_of p a (op_at v a).cut n).dev < length v.queues → (i k : ℕ) → places p (cut-view p v a n) i k ≡ due (request_at p i) (op_at (cut-view p v a n) i) k
cut-place p v a n s h l d i k = from (at_set v.ops a (cut-op (op_at v a) n) no_op i)
  where
    more : (i : ℕ) → in_queues i k (cut-view p v a n).queues ≡ in_queues i k v.queues + times i k (run_of a (op_at v a).cut n)
    more i = queue-piece i k v.queues (bio_of p a (op_at v a).cut n).dev (bio_of p a (op_at v a).cut n) d

    from : AtSet v.ops a (cut-op (op_at v a) n) no_op i → places p (cut-view p v a n) i k ≡ due (request_at p i) (op_at (cut-view p v a n) i) k
    from (Same e t q) =
        let w = admitted-waits (op_at v a).phase h in
        let u = uncut-cut a k (request_at p a) (op_at v a) n w l in
        let z = s.one_place a k in
        let m = more a in
        rw (q, e) (omega arith)
    from (Other ne q) = let z = s.one_place i k in let t = times-other i k a (op_at v a).cut n ne in let m = more i in rw q (omega arith)
    from (Past t q) = let z = op-there v a (admitted-ended (op_at v a).phase h) in absurd (omega arith)

-- a group is taken and sent
abbrev send-view : View → ℕ → ℕ → List Fate → View
send-view v d j fates = record v {
  queues = set v.queues d (without j (queue_at v d));
  commands = v.commands ++ (record { dev = d; bios = group_at v d j; fates = fates; completed = false } ∷ []);
}

abbrev command_times : ℕ → ℕ → Command → ℕ
command_times i k c = if c.completed then 0 else times i k (blocks c.bios)

send-place : (p : Plan) (v : View) (d j : ℕ) (fates : List Fate) → Sound p v → j < length (queue_at v d) → (i k : ℕ) →
    places p (send-view v d j fates) i k ≡ due (request_at p i) (op_at v i) k
send-place p v d j fates s h i k =
    let z = s.one_place i k in
    let a = total-set (in_groups i k) v.queues d (without j (queue_at v d)) [] (queue-there v d j h) in
    let b = total-without (λ g. times i k (blocks g)) (queue_at v d) j [] h in
    let c = total-append (command_times i k) v.commands (record { dev = d; bios = group_at v d j; fates = fates; completed = false } ∷ []) in
    omega arith

-- two groups become one
abbrev join-view : View → ℕ → ℕ → ℕ → View
join-view v d a b = record v { queues = set v.queues d (joined (queue_at v d) a b) }

join-place : (p : Plan) (v : View) (d a b : ℕ) → Sound p v → a < length (queue_at v d) → b < length (queue_at v d) → (a ≡ b → ⊥) → (i k : ℕ) →
    places p (join-view v d a b) i k ≡ due (request_at p i) (op_at v i) k
join-place p v d a b s h l ne i k =
    let z = s.one_place i k in
    let t = total-set (in_groups i k) v.queues d (joined (queue_at v d) a b) [] (queue-there v d a h) in
    let u = total-joined (λ g. times i k (blocks g)) (queue_at v d) a b h l ne in
    let e = ap (times i k) (blocks-append (group_at v d a) (group_at v d b)) in
    let f = total-append (is_block i k) (blocks (group_at v d a)) (blocks (group_at v d b)) in
    omega arith

-- a command is completed
abbrev complete-view : Plan → View → ℕ → Command → View
complete-view p v j c = record v {
  ops = settle (settled_of (blocks c.bios) c.fates) v.ops;
  queues = set v.queues c.dev (put_all (rests p c.bios c.fates) (queue_at v c.dev));
  commands = set v.commands j (record c { completed = true });
}

times-settled : (w : BlockId → ℕ) (xs : List BlockId) (fs : List Fate) → total w (settled_of xs fs) ≤ total w xs
times-settled w [] fs = omega arith
times-settled w (x ∷ xs) [] = omega arith
times-settled w (x ∷ xs) (f ∷ fs) =
    let e = times-settled w xs fs in
    ⊎_elim (λ (z : is_settled f ≡ true). rw z (omega arith)) (λ (z : is_settled f ≡ false). rw z (omega arith)) (cases_Bool (is_settled f))

open-times : (i k : ℕ) (c : Command) → c.completed ≡ false → command_times i k c ≡ times i k (blocks c.bios)
open-times i k c h = rw h refl

due-room : (r : PlannedOp) (o : OpView) (k : ℕ) → length o.settled ≡ r.count → due r o k ≤ room o k
due-room r o k e =
    ⊎_elim (λ (z : is_waiting o.phase ≡ true). rw z (omega arith)) (λ (z : is_waiting o.phase ≡ false). rw (z, e) (omega arith)) (cases_Bool (is_waiting o.phase))

uncut-grows : (i : ℕ) (r : PlannedOp) (o q : OpView) → Grows o q → uncut i r q ≡ uncut i r o
uncut-grows i r o q g = ap (λ t. if is_waiting t then [] else run_of i q.cut (r.count - q.cut)) g.phase ∙ ap (λ n. if is_waiting o.phase then [] else run_of i n (r.count - n)) g.cut

due-grows : (r : PlannedOp) (o q : OpView) (k : ℕ) → Grows o q → due r q k ≡ due r o k
due-grows r o q k g = ap (λ t. if is_waiting t then 0 else if nat_lt k r.count then 1 else 0) g.phase

pub open-command : (p : Plan) (v : View) (j : ℕ) → Sound p v → (command_at v j).completed ≡ false → Open p (command_at v j)
open-command p v j s h = All-get_or (IsOpen p) v.commands j no_command (command-there v j h) s.commands h

abbrev pub settled_blocks : Command → List BlockId
settled_blocks c = settled_of (blocks c.bios) c.fates

pub settle-room : (p : Plan) (v : View) (j : ℕ) → Sound p v → (command_at v j).completed ≡ false → (i k : ℕ) →
    is_marked (op_at v i) k + times i k (settled_blocks (command_at v j)) ≤ room (op_at v i) k
settle-room p v j s h i k =
    let z = s.one_place i k in
    let d = due-room (request_at p i) (op_at v i) k (s.lengths i) in
    let t = times-settled (is_block i k) (blocks (command_at v j).bios) (command_at v j).fates in
    let a = total-one (command_times i k) v.commands j no_command (command-there v j h) in
    let o = open-times i k (command_at v j) h in
    omega arith

complete-place : (p : Plan) (v : View) (j : ℕ) → Sound p v → (command_at v j).completed ≡ false → (i k : ℕ) →
    places p (complete-view p v j (command_at v j)) i k ≡ due (request_at p i) (op_at (complete-view p v j (command_at v j)) i) k
complete-place p v j s h i k =
    let o = open-command p v j s h in
    let g = grows-settle (settled_blocks (command_at v j)) v.ops i in
    let m = marks-settle (settled_blocks (command_at v j)) v.ops (settle-room p v j s h) i k in
    let u = ap (times i k) (uncut-grows i (request_at p i) (op_at v i) (get_or (settle (settled_blocks (command_at v j)) v.ops) i no_op) g) in
    let d = due-grows (request_at p i) (op_at v i) (get_or (settle (settled_blocks (command_at v j)) v.ops) i no_op) k g in
    let z = s.one_place i k in
    let c = total-set (command_times i k) v.commands j (record (command_at v j) { completed = true }) no_command (command-there v j h) in
    let w = open-times i k (command_at v j) h in
    let sd = s.devices in
    let od = o.device in
    let q = total-set (in_groups i k) v.queues (command_at v j).dev (put_all (rests p (command_at v j).bios (command_at v j).fates) (queue_at v (command_at v j).dev)) [] (omega arith) in
    let r = total-put_all (λ g. times i k (blocks g)) (rests p (command_at v j).bios (command_at v j).fates) (queue_at v (command_at v j).dev) in
    let t = rests-times (is_block i k) p (command_at v j).bios (command_at v j).fates o.settles.each in
    omega arith

-- ---- order

clear-earlier : (p : Plan) (v : View) (i n j : ℕ) → none_conflicts p.conflicts i (unended v n) ≡ true → j < n → p.conflicts j i ≡ true → has_ended (op_at v j).phase ≡ true
clear-earlier p v i zero j h l c = absurd (omega arith)
clear-earlier p v i (suc n) j h l c =
    ⊎_elim
    (λ (e : has_ended (op_at v n).phase ≡ true).
    ⊎_elim
    (λ (f : j ≡ n). rw f e)
    (λ (ne : j ≡ n → ⊥). clear-earlier p v i n j (rw e at h) (omega arith) c)
    (cases_eq j n))
    (λ (e : has_ended (op_at v n).phase ≡ false).
    let k : (not (p.conflicts n i) && none_conflicts p.conflicts i (unended v n)) ≡ true = rw e at h in
    let b = and_parts (not (p.conflicts n i)) (none_conflicts p.conflicts i (unended v n)) k in
    ⊎_elim
    (λ (f : j ≡ n). let g : p.conflicts n i ≡ true = rw (← f) c in let x = not-true (p.conflicts n i) b.0 in let y : true ≡ false = sym g ∙ x in cc)
    (λ (ne : j ≡ n → ⊥). clear-earlier p v i n j b.1 (omega arith) c)
    (cases_eq j n))
    (cases_Bool (has_ended (op_at v n).phase))

-- where no op stops waiting and what has ended stays so
order-kept : (p : Plan) (v : View) (ops : List OpView) → Sound p v → length ops ≡ length v.ops →
    ((i : ℕ) → is_waiting (get_or ops i no_op).phase ≡ is_waiting (op_at v i).phase) → ((i : ℕ) → has_ended (op_at v i).phase ≡ true → has_ended (get_or ops i no_op).phase ≡ true) →
    (j i : ℕ) → j < i → i < length ops → is_waiting (get_or ops i no_op).phase ≡ false → p.conflicts j i ≡ true → has_ended (get_or ops j no_op).phase ≡ true
order-kept p v ops s l w e j i h k f c = e j (s.order j i h (omega arith) (sym (w i) ∙ f) c)

end-order : (p : Plan) (v : View) (a : ℕ) → Sound p v → is_admitted (op_at v a).phase ≡ true →
    (j i : ℕ) → j < i → i < length (set v.ops a (end-op (op_at v a))) → is_waiting (get_or (set v.ops a (end-op (op_at v a))) i no_op).phase ≡ false → p.conflicts j i ≡ true →
    has_ended (get_or (set v.ops a (end-op (op_at v a))) j no_op).phase ≡ true
end-order p v a s h =
    order-kept p v (set v.ops a (end-op (op_at v a))) s (length-set v.ops a (end-op (op_at v a)))
    (set_keeps (λ i o. is_waiting o.phase ≡ is_waiting (op_at v i).phase) v.ops a (end-op (op_at v a)) no_op (λ i. refl) (sym (admitted-waits (op_at v a).phase h)))
    (set_keeps (λ i o. has_ended (op_at v i).phase ≡ true → has_ended o.phase ≡ true) v.ops a (end-op (op_at v a)) no_op (λ i e. e) (λ e. refl))

cut-order : (p : Plan) (v : View) (a n : ℕ) → Sound p v →
    (j i : ℕ) → j < i → i < length (set v.ops a (cut-op (op_at v a) n)) → is_waiting (get_or (set v.ops a (cut-op (op_at v a) n)) i no_op).phase ≡ false → p.conflicts j i ≡ true →
    has_ended (get_or (set v.ops a (cut-op (op_at v a) n)) j no_op).phase ≡ true
cut-order p v a n s =
    order-kept p v (set v.ops a (cut-op (op_at v a) n)) s (length-set v.ops a (cut-op (op_at v a) n))
    (set_keeps (λ i o. is_waiting o.phase ≡ is_waiting (op_at v i).phase) v.ops a (cut-op (op_at v a) n) no_op (λ i. refl) refl)
    (set_keeps (λ i o. has_ended (op_at v i).phase ≡ true → has_ended o.phase ≡ true) v.ops a (cut-op (op_at v a) n) no_op (λ i e. e) (λ e. e))

settle-order : (p : Plan) (v : View) (bs : List BlockId) → Sound p v →
    (j i : ℕ) → j < i → i < length (settle bs v.ops) → is_waiting (get_or (settle bs v.ops) i no_op).phase ≡ false → p.conflicts j i ≡ true →
    has_ended (get_or (settle bs v.ops) j no_op).phase ≡ true
settle-order p v bs s =
    order-kept p v (settle bs v.ops) s (length-settle bs v.ops)
    (λ i. ap is_waiting (grows-settle bs v.ops i).phase)
    (λ i e. ap has_ended (grows-settle bs v.ops i).phase ∙ e)

admit-order : (p : Plan) (v : View) (a : ℕ) → Sound p v → is_waiting (op_at v a).phase ≡ true → none_conflicts p.conflicts a (unended v a) ≡ true →
    (j i : ℕ) → j < i → i < length (set v.ops a (admit-op p a (op_at v a))) → is_waiting (get_or (set v.ops a (admit-op p a (op_at v a))) i no_op).phase ≡ false → p.conflicts j i ≡ true →
    has_ended (get_or (set v.ops a (admit-op p a (op_at v a))) j no_op).phase ≡ true
admit-order p v a s h n j i l b w c = stays before
  where
    -- an op that ended stays so: op a was waiting
    stays : has_ended (op_at v j).phase ≡ true → has_ended (get_or (set v.ops a (admit-op p a (op_at v a))) j no_op).phase ≡ true
    stays =
        set_keeps (λ j o. has_ended (op_at v j).phase ≡ true → has_ended o.phase ≡ true) v.ops a (admit-op p a (op_at v a)) no_op
        (λ j e. e) (λ e. absurd (waits-ended (op_at v a).phase h e)) j

    from : AtSet v.ops a (admit-op p a (op_at v a)) no_op i → has_ended (op_at v j).phase ≡ true
    from (Same e t q) = clear-earlier p v a a j n (omega arith) (rw (← e) c)
    from (Other ne q) = let k = length-set v.ops a (admit-op p a (op_at v a)) in s.order j i l (omega arith) (rw q at w) c
    from (Past t q) = let k = length-set v.ops a (admit-op p a (op_at v a)) in s.order j i l (omega arith) (rw q at w) c

    before : has_ended (op_at v j).phase ≡ true
    before = from (at_set v.ops a (admit-op p a (op_at v a)) no_op i)

-- ---- all of it, step by step

no-blocks-settled : (xs : List Bool) → length xs ≡ 0 → all_true xs ≡ true
no-blocks-settled [] h = refl
no-blocks-settled (x ∷ xs) h = absurd (omega arith)

end-sound : (p : Plan) (v : View) (a n : ℕ) → Sound p v → is_admitted (op_at v a).phase ≡ true → all_true (op_at v a).settled ≡ true →
    Sound p (record v { ops = set v.ops a (end-op (op_at v a)); steps = n })
end-sound p v a n s h t = record {
  ops = length-set v.ops a (end-op (op_at v a)) ∙ s.ops;
  devices = s.devices;
  one_place = end-place p v a s h;
  lengths = set_keeps (λ i o. length o.settled ≡ (request_at p i).count) v.ops a (end-op (op_at v a)) no_op s.lengths (s.lengths a);
  cuts = set_keeps (λ i o. o.cut ≤ (request_at p i).count) v.ops a (end-op (op_at v a)) no_op s.cuts (s.cuts a);
  fresh = set_keeps (λ i o. is_waiting o.phase ≡ true → o.cut ≡ 0) v.ops a (end-op (op_at v a)) no_op s.fresh (λ e. cc);
  ended = set_keeps (λ i o. has_ended o.phase ≡ true → all_true o.settled ≡ true) v.ops a (end-op (op_at v a)) no_op s.ended (λ e. t);
  order = end-order p v a s h;
  groups = s.groups;
  commands = s.commands;
}

admit-sound : (p : Plan) (v : View) (a n : ℕ) → Sound p v → is_waiting (op_at v a).phase ≡ true → none_conflicts p.conflicts a (unended v a) ≡ true →
    Sound p (record v { ops = set v.ops a (admit-op p a (op_at v a)); steps = n })
admit-sound p v a n s h c = record {
  ops = length-set v.ops a (admit-op p a (op_at v a)) ∙ s.ops;
  devices = s.devices;
  one_place = admit-place p v a s h;
  lengths = set_keeps (λ i o. length o.settled ≡ (request_at p i).count) v.ops a (admit-op p a (op_at v a)) no_op s.lengths (s.lengths a);
  cuts = set_keeps (λ i o. o.cut ≤ (request_at p i).count) v.ops a (admit-op p a (op_at v a)) no_op s.cuts (s.cuts a);
  fresh = set_keeps (λ i o. is_waiting o.phase ≡ true → o.cut ≡ 0) v.ops a (admit-op p a (op_at v a)) no_op s.fresh (λ e. s.fresh a h);
  ended = set_keeps (λ i o. has_ended o.phase ≡ true → all_true o.settled ≡ true) v.ops a (admit-op p a (op_at v a)) no_op s.ended
      (λ e. no-blocks-settled (op_at v a).settled (s.lengths a ∙ eqb-true (request_at p a).count 0 (admit-ended (eqb (request_at p a).count 0) e)));
  order = admit-order p v a s h c;
  groups = s.groups;
  commands = s.commands;
}

cut-sound : (p : Plan) (v : View) (a n m : ℕ) → Sound p v → is_admitted (op_at v a).phase ≡ true → 1 ≤ n → n ≤ (request_at p a).count - (op_at v a).cut →
    (bio_of p a (op_at v a).cut n).dev < p.devices → Sound p (record (cut-view p v a n) { steps = m })
cut-sound p v a n m s h one l d = record {
  ops = length-set v.ops a (cut-op (op_at v a) n) ∙ s.ops;
  devices = length-set v.queues (bio_of p a (op_at v a).cut n).dev (put (bio_of p a (op_at v a).cut n ∷ []) (queue_at v (bio_of p a (op_at v a).cut n).dev)) ∙ s.devices;
  one_place = cut-place p v a n s h l (let e = s.devices in omega arith);
  lengths = set_keeps (λ i o. length o.settled ≡ (request_at p i).count) v.ops a (cut-op (op_at v a) n) no_op s.lengths (s.lengths a);
  cuts = set_keeps (λ i o. o.cut ≤ (request_at p i).count) v.ops a (cut-op (op_at v a) n) no_op s.cuts (let e = s.cuts a in omega arith);
  fresh = set_keeps (λ i o. is_waiting o.phase ≡ true → o.cut ≡ 0) v.ops a (cut-op (op_at v a) n) no_op s.fresh (λ e. let w = admitted-waits (op_at v a).phase h in cc);
  ended = set_keeps (λ i o. has_ended o.phase ≡ true → all_true o.settled ≡ true) v.ops a (cut-op (op_at v a) n) no_op s.ended (s.ended a);
  order = cut-order p v a n s;
  groups = All-set (All HasBlocks) v.queues (bio_of p a (op_at v a).cut n).dev (put (bio_of p a (op_at v a).cut n ∷ []) (queue_at v (bio_of p a (op_at v a).cut n).dev))
      (All-put HasBlocks (bio_of p a (op_at v a).cut n ∷ []) (queue_at v (bio_of p a (op_at v a).cut n).dev) (omega arith)
      (All-get_or (All HasBlocks) v.queues (bio_of p a (op_at v a).cut n).dev [] (let e = s.devices in omega arith) s.groups)) s.groups;
  commands = s.commands;
}

join-sound : (p : Plan) (v : View) (d a b m : ℕ) → Sound p v → a < length (queue_at v d) → b < length (queue_at v d) → (a ≡ b → ⊥) →
    Sound p (record (join-view v d a b) { steps = m })
join-sound p v d a b m s h l ne = record {
  ops = s.ops;
  devices = length-set v.queues d (joined (queue_at v d) a b) ∙ s.devices;
  one_place = join-place p v d a b s h l ne;
  lengths = s.lengths;
  cuts = s.cuts;
  fresh = s.fresh;
  ended = s.ended;
  order = s.order;
  groups = All-set (All HasBlocks) v.queues d (joined (queue_at v d) a b) (All-joined (queue_at v d) a b h (All-get_or (All HasBlocks) v.queues d [] (queue-there v d a h) s.groups)) s.groups;
  commands = s.commands;
}

send-sound : (p : Plan) (v : View) (d j : ℕ) (fates : List Fate) (m : ℕ) → Sound p v → j < length (queue_at v d) → Settles (group_at v d j) fates →
    Sound p (record (send-view v d j fates) { steps = m })
send-sound p v d j fates m s h f = record {
  ops = s.ops;
  devices = length-set v.queues d (without j (queue_at v d)) ∙ s.devices;
  one_place = send-place p v d j fates s h;
  lengths = s.lengths;
  cuts = s.cuts;
  fresh = s.fresh;
  ended = s.ended;
  order = s.order;
  groups = All-set (All HasBlocks) v.queues d (without j (queue_at v d)) (All-without HasBlocks j (queue_at v d) (All-get_or (All HasBlocks) v.queues d [] (queue-there v d j h) s.groups)) s.groups;
  commands = All-push (IsOpen p) v.commands (record { dev = d; bios = group_at v d j; fates = fates; completed = false }) s.commands
      (λ e. record { device = (let e = s.devices in let t = queue-there v d j h in omega arith); settles = f });
}

complete-sound : (p : Plan) (v : View) (j m : ℕ) → Sound p v → (command_at v j).completed ≡ false → Sound p (record (complete-view p v j (command_at v j)) { steps = m })
complete-sound p v j m s h = record {
  ops = length-settle (settled_blocks (command_at v j)) v.ops ∙ s.ops;
  devices = length-set v.queues (command_at v j).dev (put_all (rests p (command_at v j).bios (command_at v j).fates) (queue_at v (command_at v j).dev)) ∙ s.devices;
  one_place = complete-place p v j s h;
  lengths = λ i. (grows-settle (settled_blocks (command_at v j)) v.ops i).length ∙ s.lengths i;
  cuts = λ i. (let e = (grows-settle (settled_blocks (command_at v j)) v.ops i).cut in let c = s.cuts i in omega arith);
  fresh = λ i e. (grows-settle (settled_blocks (command_at v j)) v.ops i).cut ∙ s.fresh i (sym (ap is_waiting (grows-settle (settled_blocks (command_at v j)) v.ops i).phase) ∙ e);
  ended = λ i e. (grows-settle (settled_blocks (command_at v j)) v.ops i).all (s.ended i (sym (ap has_ended (grows-settle (settled_blocks (command_at v j)) v.ops i).phase) ∙ e));
  order = settle-order p v (settled_blocks (command_at v j)) s;
  groups = All-set (All HasBlocks) v.queues (command_at v j).dev (put_all (rests p (command_at v j).bios (command_at v j).fates) (queue_at v (command_at v j).dev))
      (All-put_all HasBlocks (rests p (command_at v j).bios (command_at v j).fates) (queue_at v (command_at v j).dev)
      (rests-have p (command_at v j).bios (command_at v j).fates (open-command p v j s h).settles.each)
      (All-get_or (All HasBlocks) v.queues (command_at v j).dev [] (let e = s.devices in let o = (open-command p v j s h).device in omega arith) s.groups)) s.groups;
  commands = All-set (IsOpen p) v.commands j (record (command_at v j) { completed = true }) (λ e. let f : true ≡ false = e in cc) s.commands;
}

pub keeps : (p : Plan) (v : View) (t : Step) (cut : ℕ) (fates : List Fate) → OnDevices p → Sound p v → can p v t ≡ true → Answered v t fates → Sound p (step p v t cut fates)
keeps p v (End a) cut fates on s h f =
    let b = and_parts (is_admitted (op_at v a).phase) (all_true (op_at v a).settled) h in
    end-sound p v a (suc v.steps) s b.0 b.1
keeps p v (Complete j) cut fates on s h f = complete-sound p v j (suc v.steps) s (not-true (command_at v j).completed h)
keeps p v (Admit a) cut fates on s h f =
    let b = and_parts (is_waiting (op_at v a).phase) (nat_lt (length (unended v a)) 32 && none_conflicts p.conflicts a (unended v a)) h in
    let c = and_parts (nat_lt (length (unended v a)) 32) (none_conflicts p.conflicts a (unended v a)) b.1 in
    admit-sound p v a (suc v.steps) s b.0 c.1
keeps p v (Cut a) cut fates on s h f =
    let b = and_parts (is_admitted (op_at v a).phase) (nat_lt (op_at v a).cut (request_at p a).count) h in
    let l = ltb-true (op_at v a).cut (request_at p a).count b.1 in
    let one = piece-some p a (op_at v a).cut in
    let most = piece-within p a (op_at v a).cut l in
    let small = cut-within cut (greatest_piece p a (op_at v a).cut) one in
    cut-sound p v a (cut_to cut (greatest_piece p a (op_at v a).cut)) (suc v.steps) s b.0 (cut-some cut (greatest_piece p a (op_at v a).cut) one) (omega arith) (on a (op_at v a).cut l)
keeps p v (Join d i j) cut fates on s h f =
    let b = and_parts (nat_lt i (length (queue_at v d))) (nat_lt j (length (queue_at v d)) && (not (eqb i j) && may_follow p.limits (group_at v d i) (group_at v d j))) h in
    let c = and_parts (nat_lt j (length (queue_at v d))) (not (eqb i j) && may_follow p.limits (group_at v d i) (group_at v d j)) b.1 in
    let e = and_parts (not (eqb i j)) (may_follow p.limits (group_at v d i) (group_at v d j)) c.1 in
    join-sound p v d i j (suc v.steps) s (ltb-true i (length (queue_at v d)) b.0) (ltb-true j (length (queue_at v d)) c.0) (eqb-false i j (not-true (eqb i j) e.0))
keeps p v (Send d i) cut fates on s h f = send-sound p v d i fates (suc v.steps) s (ltb-true i (length (queue_at v d)) h) f
