-- What a stack comes to that followed the walk of its script to the end.
use Rattle.std.proofs.Common.{◌≡◌, ◌⊎◌, inl, inr, ◌<◌, ◌≤◌, ℕ, zero, suc, ◌+◌, Bool, true, List, [], ◌∷◌, length, drop, get_or, map, take, Option, refl, sym, ap, subst, ◌∙◌, arith}
use Rattle.std.specs.Prelude.{if◌then◌else◌}
use Rattle.page_pool.specs.Cells.{flat}
use Rattle.bio_core.specs.declared.fate.Why.{Why}
use Rattle.range_gate.specs.Gates.{has_ended}
use Rattle.rig_api.specs.Log.{LogEntry}
use Rattle.fault_schedule.specs.declared.fault.FaultLine.{FaultLine}
use Rattle.rig_api.specs.Target.{Stored}
use Rattle.dix_adapter.specs.Ways.{blocks_told}
use Rattle.rig_api.specs.Telling.{Standing}
use Rattle.stack_ops.specs.declared.op.Op.{Op}
use Rattle.stack_ops.specs.declared.op.Op.TheVariants.{Fetch, FetchPi, Fill, Overwrite, Put, Seal, Show, Wait, Write, WritePi}
use Rattle.stack_ops.specs.declared.reply.Reply.{Reply}
use Rattle.stack_ops.specs.declared.reply.Reply.TheVariants.{Medium, Shown, Silent}
use Rattle.stack_laws.specs.Plan.{Plan, request_at}
use Rattle.stack_laws.specs.Steps.{enabled}
use Rattle.stack_laws.specs.View.{op_at}
use Rattle.stack_laws.proofs.Enabled.{stuck, all-at}
use Rattle.block_path.specs.Acts.{State}
use Rattle.block_path.specs.Blocks.{ActAnswer, Sent}
use Rattle.block_path.specs.Moves.{hidden}
use Rattle.stack_walk_laws.specs.Passed.{IsBoundRun, fates_of, Backed, recorded, told, bad_from, reply_of, whole_or_bad, Setting, Step, each_from, steps_of}
use Rattle.stack_walk_laws.specs.Finished.{AllEnded, HasEnded, HaveEnded, answer_of, answers_of, replies_of}
use Rattle.stack_walk_laws.specs.Slots.{Done, Settled, Status}
use Rattle.stack_walk_laws.proofs.Backing.{is_backed, told_carried}
use Rattle.stack_walk_laws.proofs.Ends.{ends_as_walk}
use Rattle.stack_walk_laws.specs.Takes.{AllTakeAny}
use Rattle.stack_walk_laws.specs.AtTheEnd.{EndsAsFalling}
use Rattle.stack_walk_laws.proofs.Ending.{ends_as_falling}
use Rattle.stack_walk_laws.specs.Statuses.{fate_in}
use Rattle.stack_walk_laws.proofs.Letting.{ended_waits}
use Rattle.stack_walk_laws.proofs.WalksStanding.{is_done, is_settled}
use Rattle.stack_walk_laws.specs.Flips.{with_flips}
use Rattle.stack_walk_laws.proofs.Flipped.{FineByLength, bound_flip, ended_flip, replies_flip, takes_flip}
use Rattle.stack_core.specs.Courses.{Course}
use Rattle.stack_core.specs.declared.stack.Stack.{Stack}
use Rattle.stack_walk_laws.specs.Sheets.{op_in}
use Rattle.stack_core.specs.Stacks.{IsStack, plan_in}
use Rattle.stack_ops.specs.Ops.{is_overwrite}
use Rattle.stack_core.specs.Walking.{EndsFallen, EndsTold, HasFails, IsOver, IsReply, Walks, WalksBy, WalksTold, data_of, is_medium, shown_by, shown_in, status_of, why_in, WalksFalling}
use Rattle.stack_core.proofs.Context.{over_told}
use Rattle.stack_core.proofs.Walked.{sound, stand}

-- blocks of a request, of which each is settled so
module _ (f : ℕ → Step) (status : ℕ → Status) (why : ℕ → Option Why) where
  whys_are : (k c : ℕ) → ((q : ℕ) → k ≤ q → q < k + c → status q ≡ Settled (why q)) → map (λ (a : ActAnswer). a.why) (answers_of k (each_from k c f) status) ≡ each_from k c why
  whys_are k zero h = refl
  whys_are k (suc c) h = ap (λ s. (answer_of s).why ∷ map (λ (a : ActAnswer). a.why) (answers_of (suc k) (each_from (suc k) c f) status)) (h k (omega arith) (omega arith)) ∙ ap (λ l. why k ∷ l) (whys_are (suc k) c (λ q a b. h q (omega arith) (omega arith)))

module _ (m : Setting) (i : ℕ) (status : ℕ → Status) (why : ℕ → Option Why) (reply : Reply) where
  -- what the op replied is what its blocks say
  request_says : (f : ℕ → Step) (c : ℕ) → ((q : ℕ) → q < c → status q ≡ Settled (why q)) → reply ≡ whole_or_bad (bad_from 0 (each_from 0 c why)) → whole_or_bad (bad_from 0 (map (λ (a : ActAnswer). a.why) (answers_of 0 (each_from 0 c f) status))) ≡ reply
  request_says f c h e = ap (λ w. whole_or_bad (bad_from 0 w)) (whys_are f status why 0 c (λ q a b. h q (omega arith))) ∙ sym e

  over_says : (fails : Bool) → (reply ≡ Silent) ⊎ (reply ≡ Medium) → fails ≡ is_medium reply → (if fails then Medium else Silent) ≡ reply
  over_says fails (inl e) h = ap (λ b. if b then Medium else Silent) (h ∙ ap is_medium e) ∙ sym e
  over_says fails (inr e) h = ap (λ b. if b then Medium else Silent) (h ∙ ap is_medium e) ∙ sym e

  says : (op : Op) → ((q : ℕ) → q < fates_of op → status q ≡ Settled (why q)) → (fates_of op ≡ 0 → status 0 ≡ Done (shown_by reply)) → IsReply op (each_from 0 (fates_of op) why) reply → (is_overwrite op ≡ true → m.fails i ≡ is_medium reply) →
      reply_of (m.fails i) op (answers_of 0 (steps_of m i op) status) ≡ reply
  says (Fill seg byte) s d r f = sym r
  says (Put page off bytes) s d r f = sym r
  says (Show seg) s d r f = ap (λ (x : Status). Shown (answer_of x).shown) (d refl) ∙ (ap (λ (x : Reply). Shown (shown_by x)) r.1 ∙ sym r.1)
  says (Seal n body tuples app rtag) s d r f = sym r
  says (Write v n body app) s d r f = request_says _ n s r
  says (Fetch v n body) s d r f = request_says _ n s r
  says (WritePi v n body tuples) s d r f = request_says _ n s r
  says (FetchPi v n body tuples) s d r f = request_says _ n s r
  says (Overwrite dev lba change) s d r f = over_says (m.fails i) r (f refl)
  says Wait s d r f = sym r

  -- and all its steps have ended
  each_over : (f : ℕ → Step) (k c : ℕ) → ((q : ℕ) → k ≤ q → q < k + c → HasEnded (f q) (status q)) → HaveEnded k (each_from k c f) status
  each_over f k zero h = tt
  each_over f k (suc c) h = (h k (omega arith) (omega arith), each_over f (suc k) c (λ q a b. h q (omega arith) (omega arith)))

  all_steps : (op : Op) → ((q : ℕ) → q < fates_of op → status q ≡ Settled (why q)) → (fates_of op ≡ 0 → (q : ℕ) → (shown : List ℕ) × (status q ≡ Done shown)) → HaveEnded 0 (steps_of m i op) status
  all_steps (Fill seg byte) s d = (d refl 0, tt)
  all_steps (Put page off bytes) s d = (d refl 0, tt)
  all_steps (Show seg) s d = (d refl 0, tt)
  all_steps (Seal n body tuples app rtag) s d = each_over _ 0 n (λ q a b. d refl q)
  all_steps (Write v n body app) s d = each_over _ 0 n (λ q a b. (why q, s q (omega arith)))
  all_steps (Fetch v n body) s d = each_over _ 0 n (λ q a b. (why q, s q (omega arith)))
  all_steps (WritePi v n body tuples) s d = each_over _ 0 n (λ q a b. (why q, s q (omega arith)))
  all_steps (FetchPi v n body tuples) s d = each_over _ 0 n (λ q a b. (why q, s q (omega arith)))
  all_steps (Overwrite dev lba change) s d = (d refl 0, tt)
  all_steps Wait s d = tt

-- of all ops
all_over : (m : Setting) (from : ℕ) (ops : List Op) (status : ℕ → ℕ → Status) → ((j : ℕ) → j < length ops → HaveEnded 0 (steps_of m (from + j) (op_in ops j)) (status (from + j))) → AllEnded m from ops status
all_over m from [] status h = tt
all_over m from (op ∷ ops) status h =
    let z : from + 0 ≡ from = omega arith in (
      subst (λ x. HaveEnded 0 (steps_of m x op) (status x)) z (h 0 (omega arith)),
      all_over m (suc from) ops status (λ j l. let y : from + suc j ≡ suc from + j = omega arith in subst (λ x. HaveEnded 0 (steps_of m x (op_in ops j)) (status x)) y (h (suc j) (omega arith))),
    )

all_replies : (m : Setting) (from : ℕ) (ops : List Op) (status : ℕ → ℕ → Status) (replies : List Reply) → length replies ≡ length ops →
    ((j : ℕ) → j < length ops → reply_of (m.fails (from + j)) (op_in ops j) (answers_of 0 (steps_of m (from + j) (op_in ops j)) (status (from + j))) ≡ get_or replies j Silent) → replies_of m from ops status ≡ replies
all_replies m from [] status [] e h = refl
all_replies m from [] status (r ∷ replies) e h = absurd (omega arith)
all_replies m from (op ∷ ops) status [] e h = absurd (omega arith)
all_replies m from (op ∷ ops) status (r ∷ replies) e h =
    let z : from + 0 ≡ from = omega arith in
    let here : reply_of (m.fails from) op (answers_of 0 (steps_of m from op) (status from)) ≡ r = subst (λ x. reply_of (m.fails x) op (answers_of 0 (steps_of m x op) (status x)) ≡ r) z (h 0 (omega arith)) in
    let rest = all_replies m (suc from) ops status replies (omega arith) (λ j l. let y : from + suc j ≡ suc from + j = omega arith in subst (λ x. reply_of (m.fails x) (op_in ops j) (answers_of 0 (steps_of m x (op_in ops j)) (status x)) ≡ get_or replies j Silent) y (h (suc j) (omega arith))) in
    ap (λ x. x ∷ replies_of m (suc from) ops status) here ∙ ap (λ l. r ∷ l) rest

module _ {course : Course} (over : Setting) (n : ℕ) (opening : State) (es : List Sent) (left : List (List ℕ)) (s : Stack) (k : IsStack s) (o : IsOver over n opening s.sheet s.adapter s.host) (w : WalksBy course over n opening es left s) (none : enabled (plan_in s.sheet) w.view ≡ []) where
  abbrev plan : Plan
  plan = plan_in s.sheet

  abbrev ops : List Op
  ops = s.sheet.ops

  abbrev status : ℕ → ℕ → Status
  status = status_of plan (data_of s) w.view

  abbrev why : ℕ → ℕ → Option Why
  why = why_in (data_of s).starts (data_of s).held

  ended : (i : ℕ) → i < length ops → has_ended (op_at w.view i).phase ≡ true
  ended i l =
      let x = sound over n opening es left s k o w in
      let y = (stand over n opening es left s k o w).plan.many in
      let z = x.ops in
      stuck plan w.view x none i (omega arith)

  settled : (i q : ℕ) → i < length ops → q < fates_of (op_in ops i) → status (suc i) q ≡ Settled (why i q)
  settled i q l b =
      let x = sound over n opening es left s k o w in
      let c = (stand over n opening es left s k o w).plan.count i in
      let e = ended i l in
      let g = x.lengths i in
      is_settled (request_at plan i).count (op_at w.view i) (shown_in (data_of s).replies i q) (why i q) (fate_in i q w.view.commands) q (ended_waits (op_at w.view i).phase e) (omega arith) (all-at (op_at w.view i).settled q (x.ended i e) (omega arith))

  done : (i q : ℕ) → i < length ops → fates_of (op_in ops i) ≡ 0 → status (suc i) q ≡ Done (shown_in (data_of s).replies i q)
  done i q l z =
      let c = (stand over n opening es left s k o w).plan.count i in
      is_done (request_at plan i).count (op_at w.view i) (shown_in (data_of s).replies i q) (why i q) (fate_in i q w.view.commands) q (ended_waits (op_at w.view i).phase (ended i l)) (omega arith)

  pub all_ended : (m : Setting) → AllEnded m 1 ops status
  all_ended m = all_over m 1 ops status (λ j l. let y : suc j ≡ 1 + j = omega arith in subst (λ x. HaveEnded 0 (steps_of m x (op_in ops j)) (status x)) y (all_steps m (suc j) (status (suc j)) (why j) Silent (op_in ops j) (λ q b. settled j q l b) (λ z q. (shown_in (data_of s).replies j q, done j q l z))))

  -- the setting says which overwrites failed, where there are some
  pub all_replied : (m : Setting) → ((i : ℕ) → i < length ops → is_overwrite (op_in ops i) ≡ true → m.fails (suc i) ≡ is_medium (get_or s.replies.items i Silent)) → replies_of m 1 ops status ≡ s.replies.items
  all_replied m f =
      let r = k.replies in
      let o = k.fixed.ops in
      all_replies m 1 ops status s.replies.items (omega arith)
      (λ j l. let y : suc j ≡ 1 + j = omega arith in subst (λ x. reply_of (m.fails x) (op_in ops j) (answers_of 0 (steps_of m x (op_in ops j)) (status x)) ≡ get_or s.replies.items j Silent) y (says m (suc j) (status (suc j)) (why j) (get_or s.replies.items j Silent) (op_in ops j) (λ q b. settled j q l b) (λ z. done j 0 l z) (w.follow.replied j l (ended j l)) (f j l)))

-- Over any rig the replies are backed by what stands on record since the stack began.
pub ends_backed : (m : Setting) (n : ℕ) (opening : State) (first : ℕ) (s : Stack) (st : Standing) (log : List LogEntry) → IsStack s → (w : Walks m n opening first s st log) → enabled (plan_in s.sheet) w.walks.view ≡ [] →
    HasFails m s.replies.items → IsBoundRun (told m (recorded m (drop first log))) (λ c block. true) n s.sheet.ops opening → Backed m s.sheet.ops (hidden n opening) (drop first log) s.replies.items
ends_backed m n opening first s st log k w none f bound =
    let es = recorded m (drop first log) in
    let o = over_told m es n opening s.sheet s.adapter s.host w.over in
    let status = status_of (plan_in s.sheet) (data_of s) w.walks.view in
    subst (Backed m s.sheet.ops (hidden n opening) (drop first log)) (all_replied (told m es) n opening es w.left s k o w.walks none m (λ i l e. f i))
    (is_backed m n s.sheet.ops opening w.walks.now status (drop first log) bound (all_ended (told m es) n opening es w.left s k o w.walks none m) w.walks.follow.follows)

-- Over a rig that tells its blocks the stack has done the walk.
pub ends_told : (m : Setting) (fine : ℕ → List ℕ → Bool) (n : ℕ) (opening : State) (first : ℕ) (s : Stack) (units : Option (List Stored)) (armed : List FaultLine) (st : Standing) (log : List LogEntry) → IsStack s → (w : WalksTold m n opening first s units armed st log) → enabled (plan_in s.sheet) w.walks.view ≡ [] →
    HasFails m s.replies.items → IsBoundRun m fine n s.sheet.ops opening → EndsTold m n opening s.sheet.ops s w.us (drop first log)
ends_told m fine n opening first s units armed st log k w none f bound =
    let es = recorded m (drop first log) in
    let ops = s.sheet.ops in
    let status = status_of (plan_in s.sheet) (data_of s) w.walks.view in
    let replied = all_replied m n opening es (blocks_told w.us) s k w.over w.walks none m (λ i l e. f i) in
    let over = all_ended m n opening es (blocks_told w.us) s k w.over w.walks none m in
    let ends = ends_as_walk m fine n ops opening w.walks.now status es bound over w.walks.follow.follows in
    let told = told_carried m fine n ops opening w.walks.now status (drop first log) bound over w.walks.follow.follows in
    record {
      replies = sym replied ∙ ends.replies;
      pages = ap (take n) (sym w.walks.follow.bytes) ∙ ap (λ x. x.bytes) ends.cells;
      blocks = sym w.walks.blocks ∙ ap (λ x. x.blocks) ends.cells;
      carried = told.0;
      backed = subst (Backed m ops (hidden n opening) (drop first log)) replied told.1;
    }

-- And where some store calls failed, it has done the walk in which just these fail.
pub ends_falling : (m : Setting) (fine : ℕ → List ℕ → Bool) (n : ℕ) (opening : State) (first : ℕ) (s : Stack) (units : Option (List Stored)) (armed : List FaultLine) (st : Standing) (log : List LogEntry) → IsStack s → (w : WalksFalling m n opening first s units armed st log) → enabled (plan_in s.sheet) (w.1).walks.view ≡ [] →
    HasFails m s.replies.items → FineByLength fine → IsBoundRun m fine n s.sheet.ops opening → AllTakeAny m fine 1 s.sheet.ops → EndsFallen m n opening s.sheet.ops (take n (flat s.pool)) (blocks_told (w.1).us) s.replies.items (recorded m (drop first log))
ends_falling m fine n opening first s units armed st log k walks none f long bound takes =
    let flips = walks.0 in
    let t = walks.1 in
    let es = recorded m (drop first log) in
    let ops = s.sheet.ops in
    let script = with_flips flips 1 ops in
    let status = status_of (plan_in s.sheet) (data_of s) t.walks.view in
    let replied = replies_flip m flips 1 ops status ∙ all_replied m n opening es (blocks_told t.us) s k t.over t.walks none m (λ i l e. f i) in
    let over = ended_flip m flips 1 ops status (all_ended m n opening es (blocks_told t.us) s k t.over t.walks none m) in
    let h = t.walks.follow.follows.0 in
    let ends = ends_as_falling m fine n script opening status t.walks.now.bytes t.walks.now.blocks es (bound_flip m fine flips n ops opening long bound) (takes_flip m fine flips 1 ops takes) over h in
    record {
      flips = flips;
      replied = λ i l e. t.walks.follow.failed i l (ended m n opening es (blocks_told t.us) s k t.over t.walks none i l) e;
      ends = subst (λ replies. EndsAsFalling m n script opening (take n (flat s.pool)) (blocks_told t.us) replies es) replied
          (subst (λ blocks. EndsAsFalling m n script opening (take n (flat s.pool)) blocks (replies_of m 1 script status) es) t.walks.blocks
          (subst (λ bytes. EndsAsFalling m n script opening (take n bytes) t.walks.now.blocks (replies_of m 1 script status) es) t.walks.follow.bytes ends));
    }
