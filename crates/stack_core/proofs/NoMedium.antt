-- A finished stack whose replies name the medium but for blocks that a fault line says it fails: no store call of it failed, and it followed the walk at the target.
use Rattle.std.proofs.Common.{◌≡◌, ◌⊎◌, inl, inr, ◌<◌, ◌≤◌, ℕ, zero, suc, ◌+◌, Bool, true, false, not, ◌&&◌, if◌then◌else◌, List, [], ◌∷◌, length, drop, get_or, is_some, Option, Some, None, refl, sym, ap, subst, ◌∙◌, arith, ⊎_elim}
use Rattle.std.proofs.lemmas.Bool.{cases_eq, cases_lt, false≢true}
use Rattle.std.proofs.lemmas.List.{get_or_past}
use Rattle.bio_core.specs.declared.fate.Why.{Why}
use Rattle.bio_core.specs.declared.fate.Why.TheVariants.{Medium, Short}
use Rattle.dix_adapter.specs.Ways.{blocks_told}
use Rattle.fault_schedule.specs.Altered.{fails_of, has_fail}
use Rattle.fault_schedule.proofs.Unfailing.{unfailing}
use Rattle.fault_schedule.specs.declared.fault.FaultLine.{FaultLine}
use Rattle.range_gate.specs.Gates.{has_ended, is_waiting}
use Rattle.rig_api.specs.Log.{LogEntry}
use Rattle.rig_api.specs.Telling.{Standing}
use Rattle.rig_api.specs.Target.{Stored}
use Rattle.stack_ops.specs.declared.op.Op.{Op}
use Rattle.stack_ops.specs.declared.op.Op.TheVariants.{Fetch, FetchPi, Fill, Overwrite, Put, Seal, Show, Wait, Write, WritePi}
use Rattle.block_path.specs.Senses.{is_medium_why}
use Rattle.stack_ops.specs.declared.reply.BadBlock.{BadBlock}
use Rattle.stack_ops.specs.declared.reply.Reply.{Reply}
use Rattle.stack_ops.specs.declared.reply.Reply.TheVariants.{Bad, Medium as MediumReply, Shown, Silent, Whole}
use Rattle.stack_laws.specs.Plan.{request_at}
use Rattle.stack_laws.specs.Steps.{enabled}
use Rattle.stack_laws.specs.View.{OpView, no_op, op_at}
use Rattle.stack_laws.proofs.Enabled.{stuck, all-at}
use Rattle.block_path.specs.Acts.{State}
use Rattle.block_path.specs.Blocks.{Sent}
use Rattle.stack_walk_laws.specs.Passed.{fates_of, recorded, bad_from, whole_or_bad, Setting, each_from}
use Rattle.stack_walk_laws.specs.Following.{Follows}
use Rattle.stack_walk_laws.specs.Slots.{Status}
use Rattle.stack_walk_laws.specs.Flips.{Flips, flip_op, with_flips}
use Rattle.stack_walk_laws.specs.FollowsFalling.{HasFallen}
use Rattle.stack_ops.specs.Ops.{is_overwrite}
use Rattle.stack_walk_laws.proofs.NoneFell.{none_fell}
use Rattle.stack_walk_laws.specs.Sheets.{op_in}
use Rattle.stack_walk_laws.specs.Statuses.{fate_in}
use Rattle.stack_walk_laws.proofs.Letting.{ended_waits}
use Rattle.stack_walk_laws.proofs.WalksStanding.{is_done, is_settled, past}
use Rattle.stack_core.specs.Courses.{Falling}
use Rattle.stack_core.specs.declared.stack.Stack.{Stack}
use Rattle.dix_base.specs.Told.{Calm}
use Rattle.stack_core.specs.Mediums.{RoseBy, listed_mediums, listed_unscheduled, medium_lines, medium_replies, one_reply, unscheduled_from, unscheduled_mediums}
use Rattle.stack_core.specs.OnRecord.{bad_blocks}
use Rattle.stack_core.specs.Stacks.{IsFinished, IsStack, plan_in}
use Rattle.stack_core.specs.Walking.{IsOver, IsReply, NoneFailed, WalksBy, WalksFalling, WalksTold, data_of, is_medium, shown_in, status_of, why_in}
use Rattle.stack_core.proofs.Walked.{sound, stand}
use Rattle.stack_core.proofs.ListsAll.{lists_bad}

-- ---- what the lines say

line_in : (faults : List FaultLine) (op : ℕ) (replies : List Reply) (i : ℕ) → listed_unscheduled faults (op + i) (bad_blocks (get_or replies i Silent)) + one_reply (get_or replies i Silent) ≤ unscheduled_from faults op replies
line_in faults op [] zero = omega arith
line_in faults op [] (suc i) = omega arith
line_in faults op (r ∷ replies) zero = let z : op + 0 ≡ op = omega arith in rw z (omega arith)
line_in faults op (r ∷ replies) (suc i) = let z : op + suc i ≡ suc op + i = omega arith in let h = line_in faults (suc op) replies i in rw z (omega (arith, h))

-- without `fail` lines they are all that name the medium
pub unfailing_lines : (faults : List FaultLine) (replies : List Reply) → has_fail faults ≡ false → unscheduled_mediums faults replies ≡ medium_lines replies
unfailing_lines faults replies none = from 1 replies where
  mark_is : (c d : Bool) → d ≡ false → ◌≡◌ {A = ℕ} (if c && not d then 1 else 0) (if c then 1 else 0)
  mark_is true d e = rw e refl
  mark_is false d e = refl

  listed : (op : ℕ) (blocks : List BadBlock) → listed_unscheduled faults op blocks ≡ listed_mediums blocks
  listed op [] = refl
  listed op (b ∷ blocks) = let l = mark_is (is_medium_why b.why) (fails_of faults (record { op = op; k = b.k })) (unfailing faults none (record { op = op; k = b.k })) in let h = listed op blocks in omega (arith, l, h)

  from : (op : ℕ) (replies : List Reply) → unscheduled_from faults op replies ≡ medium_lines replies
  from op [] = refl
  from op (r ∷ replies) = let l = listed op (bad_blocks r) in let h = from (suc op) replies in omega (arith, l, h)

reply_medium : (reply : Reply) → one_reply reply ≡ 0 → is_medium reply ≡ false
reply_medium Silent e = refl
reply_medium Whole e = refl
reply_medium (Bad blocks) e = refl
reply_medium (Shown bytes) e = refl
reply_medium MediumReply e = absurd (omega (arith, e))

-- while the count of faults doesn't rise no line names the medium
pub none_named : (n old new : ℕ) → RoseBy n old new → Calm old new → n ≡ 0
none_named n old new (inl l) c = let a = c.0 in omega (arith, l, a)
none_named n old new (inr e) c = let a = c.1 in absurd (omega (arith, e, a))

pub none_failed : (faults : List FaultLine) (replies : List Reply) → unscheduled_mediums faults replies ≡ 0 → NoneFailed replies
none_failed faults replies e i = let h = line_in faults 1 replies i in reply_medium (get_or replies i Silent) (omega (arith, h, e))

-- so none failed where no reply says so
pub none_replied : (replies : List Reply) → medium_replies replies ≡ 0 → NoneFailed replies
none_replied [] e zero = refl
none_replied [] e (suc i) = refl
none_replied (r ∷ replies) e zero = reply_medium r (omega (arith, e))
none_replied (r ∷ replies) e (suc i) = none_replied replies (omega (arith, e)) i

abbrev mark : (medium failing : Bool) → ℕ
mark medium failing = if medium && not failing then 1 else 0

-- a block that is listed for the medium and of which no line says that it fails it is counted
counted : (faults : List FaultLine) (op : ℕ) (f : ℕ → Option Why) (k n q : ℕ) → fails_of faults (record { op = op; k = q }) ≡ false → k ≤ q → q < k + n → f q ≡ Some Medium → 1 ≤ listed_unscheduled faults op (bad_from k (each_from k n f))
counted faults op f k zero q t a b e = absurd (omega (arith, a, b))
counted faults op f k (suc n) q t a b e = by (f k) refl (cases_eq q k) (λ p. counted faults op f (suc k) n q t (omega (arith, a, p)) (omega (arith, b)) e) where
  Rest : Type 0
  Rest = (q ≡ k → ⊥) → 1 ≤ listed_unscheduled faults op (bad_from (suc k) (each_from (suc k) n f))

  aside : q ≡ k → fails_of faults (record { op = op; k = k }) ≡ false
  aside p = ap (λ x. fails_of faults (record { op = op; k = x })) (sym p) ∙ t

  value : Option Why → Why
  value None = Short
  value (Some w) = w

  here : (o : Option Why) → f k ≡ o → q ≡ k → o ≡ Some Medium
  here o x p = sym x ∙ ap f (sym p) ∙ e

  is_there : Option Why → Bool
  is_there None = false
  is_there (Some w) = true

  by : (o : Option Why) → f k ≡ o → (q ≡ k) ⊎ (q ≡ k → ⊥) → Rest → 1 ≤ listed_unscheduled faults op (bad_from k (o ∷ each_from (suc k) n f))
  by None x (inl p) rest = absurd (false≢true (ap is_there (here None x p)))
  by None x (inr p) rest = rest p
  by (Some why) x (inl p) rest =
      let w : why ≡ Medium = ap value (here (Some why) x p) in
      let one : mark (is_medium_why why) (fails_of faults (record { op = op; k = k })) ≡ 1 = ap (λ y. mark (is_medium_why y) (fails_of faults (record { op = op; k = k }))) w ∙ ap (mark true) (aside p) in
      omega (arith, one)
  by (Some why) x (inr p) rest = let h = rest p in omega (arith, h)

request_counted : (faults : List FaultLine) (i : ℕ) (why : ℕ → Option Why) (n q : ℕ) (reply : Reply) → fails_of faults (record { op = i; k = q }) ≡ false → reply ≡ whole_or_bad (bad_from 0 (each_from 0 n why)) → q < n → why q ≡ Some Medium → 1 ≤ listed_unscheduled faults i (bad_blocks reply)
request_counted faults i why n q reply t r l e = let a = ap (listed_unscheduled faults i) (ap bad_blocks r ∙ lists_bad _) in let b = counted faults i why 0 n q t (omega arith) (omega (arith, l)) e in omega (arith, a, b)

op_counted : (faults : List FaultLine) (i : ℕ) (op : Op) (why : ℕ → Option Why) (q : ℕ) (reply : Reply) → fails_of faults (record { op = i; k = q }) ≡ false → IsReply op (each_from 0 (fates_of op) why) reply → q < fates_of op → why q ≡ Some Medium → 1 ≤ listed_unscheduled faults i (bad_blocks reply)
op_counted faults i (Fill seg byte) why q reply t r l e = absurd (omega (arith, l))
op_counted faults i (Put page off bytes) why q reply t r l e = absurd (omega (arith, l))
op_counted faults i (Show seg) why q reply t r l e = absurd (omega (arith, l))
op_counted faults i (Seal n body tuples app rtag) why q reply t r l e = absurd (omega (arith, l))
op_counted faults i (Write v n body app) why q reply t r l e = request_counted faults i why n q reply t r l e
op_counted faults i (Fetch v n body) why q reply t r l e = request_counted faults i why n q reply t r l e
op_counted faults i (WritePi v n body tuples) why q reply t r l e = request_counted faults i why n q reply t r l e
op_counted faults i (FetchPi v n body tuples) why q reply t r l e = request_counted faults i why n q reply t r l e
op_counted faults i (Overwrite dev lba change) why q reply t r l e = absurd (omega (arith, l))
op_counted faults i Wait why q reply t r l e = absurd (omega (arith, l))

-- ---- no block has fallen

module _ (flips : Flips) (over : Setting) (n : ℕ) (opening : State) (es : List Sent) (left : List (List ℕ)) (s : Stack) (k : IsStack s) (o : IsOver over n opening s.sheet s.adapter s.host) (w : WalksBy (Falling flips) over n opening es left s) (none : enabled (plan_in s.sheet) w.view ≡ []) (no_line : unscheduled_mediums over.site.faults s.replies.items ≡ 0) where
  abbrev ops : List Op
  ops = s.sheet.ops

  abbrev status : ℕ → ℕ → Status
  status = status_of (plan_in s.sheet) (data_of s) w.view

  abbrev why : ℕ → ℕ → Option Why
  why = why_in (data_of s).starts (data_of s).held

  ended : (i : ℕ) → i < length ops → has_ended (op_at w.view i).phase ≡ true
  ended i l =
      let x = sound over n opening es left s k o w in
      let y = (stand over n opening es left s k o w).plan.many in
      let z = x.ops in
      stuck (plan_in s.sheet) w.view x none i (omega (arith, l, y, z))

  not_waiting : (i : ℕ) → is_waiting (op_at w.view i).phase ≡ false
  not_waiting i =
      let x = sound over n opening es left s k o w in
      let y = (stand over n opening es left s k o w).plan.many in
      let z = x.ops in
      ⊎_elim
      (λ (l : i < length ops). ended_waits (op_at w.view i).phase (ended i l))
      (λ (l : length ops ≤ i). ap (λ (v : OpView). is_waiting v.phase) (get_or_past w.view.ops i no_op (omega (arith, l, y, z))))
      (cases_lt i (length ops))

  not_listed : (i q : ℕ) → fails_of over.site.faults (record { op = suc i; k = q }) ≡ false → q < fates_of (op_in ops i) → i < length ops → why i q ≡ Some Medium → ⊥
  not_listed i q t b l e =
      let h = line_in over.site.faults 1 s.replies.items i in
      let z : 1 + i ≡ suc i = omega arith in
      let h' = subst (λ x. listed_unscheduled over.site.faults x (bad_blocks (get_or s.replies.items i Silent)) + one_reply (get_or s.replies.items i Silent) ≤ unscheduled_from over.site.faults 1 s.replies.items) z h in
      let c = op_counted over.site.faults (suc i) (op_in ops i) (why i) q (get_or s.replies.items i Silent) t (w.follow.replied i l (ended i l)) b e in
      omega (arith, h', c, no_line)

  pub not_fallen : (i q : ℕ) → HasFallen (status i q) → fails_of over.site.faults (record { op = i; k = q }) ≡ false → ⊥
  not_fallen zero q f t = f
  not_fallen (suc i) q f t =
      let x = sound over n opening es left s k o w in
      let y = (stand over n opening es left s k o w).plan.many in
      let z = x.ops in
      let c = (stand over n opening es left s k o w).plan.count i in
      let g = x.lengths i in
      let count = (request_at (plan_in s.sheet) i).count in
      let v = op_at w.view i in
      let shown = shown_in (data_of s).replies i q in
      let fate = fate_in i q w.view.commands in
      ⊎_elim
      (λ (e : count ≡ 0). subst HasFallen (is_done count v shown (why i q) fate q (not_waiting i) e) f)
      (λ (e : count ≡ 0 → ⊥). ⊎_elim
      (λ (l : q < count). ⊎_elim
      (λ (a : i < length ops). not_listed i q t (omega (arith, l, c)) a (subst HasFallen (is_settled count v shown (why i q) fate q (not_waiting i) l (all-at v.settled q (x.ended i (ended i a)) (omega (arith, l, g)))) f))
      (λ (a : length ops ≤ i). absurd (e (beyond i a)))
      (cases_lt i (length ops)))
      (λ (l : count ≤ q). subst HasFallen (past count v shown (why i q) fate q (not_waiting i) (omega (arith, e)) l) f)
      (cases_lt q count))
      (cases_eq count 0)
    where
      beyond : (i : ℕ) → length ops ≤ i → (request_at (plan_in s.sheet) i).count ≡ 0
      beyond i a = (stand over n opening es left s k o w).plan.count i ∙ ap fates_of (get_or_past ops i Wait a)

-- ---- nor does an overwrite flip its block

as_is : (flips : Flips) (i k : ℕ) (ops : List Op) → ((j : ℕ) → j < length ops → is_overwrite (get_or ops j Wait) ≡ true → is_some (flips (i + j)) ≡ false) → k ≡ i → with_flips flips i ops ≡ ops
as_is flips i k [] h e = refl
as_is flips i k (op ∷ ops) h e =
    ap (λ o. o ∷ with_flips flips (suc i) ops) (here op (λ x. subst (λ j. is_some (flips j) ≡ false) (let z : i + 0 ≡ i = omega arith in z) (h 0 (omega arith) x)))
    ∙ ap (λ rest. op ∷ rest) (as_is flips (suc i) (suc k) ops (λ j l x. subst (λ j. is_some (flips j) ≡ false) (let z : i + suc j ≡ suc i + j = omega arith in z) (h (suc j) (omega (arith, l)) x)) (ap suc e))
  where
    here : (op : Op) → (is_overwrite op ≡ true → is_some (flips i) ≡ false) → flip_op (flips i) op ≡ op
    here op h = op_flips (flips i) op h where
      op_flips : (o : Option (List ℕ)) (op : Op) → (is_overwrite op ≡ true → is_some o ≡ false) → flip_op o op ≡ op
      op_flips None op h = refl
      op_flips (Some mask) (Fill seg byte) h = refl
      op_flips (Some mask) (Put page off bytes) h = refl
      op_flips (Some mask) (Show seg) h = refl
      op_flips (Some mask) (Seal n body tuples app rtag) h = refl
      op_flips (Some mask) (Write v n body app) h = refl
      op_flips (Some mask) (Fetch v n body) h = refl
      op_flips (Some mask) (WritePi v n body tuples) h = refl
      op_flips (Some mask) (FetchPi v n body tuples) h = refl
      op_flips (Some mask) (Overwrite dev lba change) h = absurd (false≢true (sym (h refl)))
      op_flips (Some mask) Wait h = refl

-- ---- so it followed the walk

pub walks_straight : (m : Setting) (n : ℕ) (opening : State) (first : ℕ) (s : Stack) (units : Option (List Stored)) (armed : List FaultLine) (st : Standing) (log : List LogEntry) → IsStack s → WalksFalling m n opening first s units armed st log →
    IsFinished s → unscheduled_mediums m.site.faults s.replies.items ≡ 0 → WalksTold m n opening first s units armed st log
walks_straight m n opening first s units armed st log k walks none e =
    let flips = walks.0 in
    let t = walks.1 in
    let es = recorded m (drop first log) in
    let w = t.walks in
    let f = w.follow.follows.0 in
    let status = status_of (plan_in s.sheet) (data_of s) w.view in
    let over = λ (i : ℕ) (l : i < length s.sheet.ops). (stuck (plan_in s.sheet) w.view (sound m n opening es (blocks_told t.us) s k t.over w) (none w.view w.holds) i (let x = (sound m n opening es (blocks_told t.us) s k t.over w).ops in let y = (stand m n opening es (blocks_told t.us) s k t.over w).plan.many in omega (arith, l, x, y))) in
    let script : with_flips flips 1 s.sheet.ops ≡ s.sheet.ops = as_is flips 1 1 s.sheet.ops (λ j l x. subst (λ i. is_some (flips i) ≡ false) (let z : suc j ≡ 1 + j = omega arith in z) (w.follow.failed j l (over j l) x ∙ none_failed m.site.faults s.replies.items e j)) refl in
    let never = not_fallen flips m n opening es (blocks_told t.us) s k t.over w (none w.view w.holds) e in
    record {
      over = t.over;
      sizes = t.sizes;
      site = t.site;
      behind = t.behind;
      armed_are = t.armed_are;
      recorded_from = t.recorded_from;
      us = t.us;
      told_are = t.told_are;
      walks = record {
        view = w.view;
        holds = w.holds;
        now = w.now;
        follow = record {
          bytes = w.follow.bytes;
          whole = w.follow.whole;
          follows = subst (λ (now : State). Follows m n s.sheet.ops opening status now es) w.follow.follows.1.0
              (subst (λ ops. Follows m n ops opening status f.after es) script (none_fell m n (with_flips flips 1 s.sheet.ops) opening status w.now.bytes w.now.blocks es never f));
          begun = w.follow.begun;
          replied = w.follow.replied;
          failed = λ i l e. tt;
          suited = w.follow.suited;
        };
        none_before = w.none_before;
        blocks = w.blocks;
      };
    }
