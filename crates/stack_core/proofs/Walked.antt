-- A stack that follows the walk of its script does so after each step that sends nothing, whatever is behind the adapter.
use Rattle.std.proofs.Common.{◌≡◌, ◌<◌, ℕ, suc, ◌+◌, ◌-◌, ◌*◌, Bool, true, false, List, [], length, get_or, set, take, drop, Option, Some, None, refl, sym, ap, subst, ◌∙◌, arith}
use Rattle.std.specs.Prelude.{eqb, if◌then◌else◌}
use Rattle.std.proofs.lemmas.Bool.{and_parts, eqb-true, ltb-true}
use Rattle.std.proofs.lemmas.List.Elements.{All-head}
use Rattle.page_pool.specs.Pages.{AreWhole}
use Rattle.page_pool.specs.Places.{range_of}
use Rattle.page_pool.proofs.Celled.{whole_stays}
use Rattle.pi_guard.specs.declared.GuardKind.{GuardKind}
use Rattle.pi_tuple.specs.declared.checks.PiType.{PiType}
use Rattle.integrity_payload.specs.declared.payload.Owner.{Owner}
use Rattle.integrity_payload.specs.declared.payload.Owner.TheVariants.{Block as OfBlock, App as OfApp}
use Rattle.integrity_payload.specs.declared.payload.Payload.{Payload}
use Rattle.bio_core.specs.declared.bio.Bio.{Bio}
use Rattle.bio_core.specs.declared.request.Dir.{Dir}
use Rattle.bio_core.specs.declared.request.Dir.TheVariants.{Read, Write as WriteDir}
use Rattle.bio_core.specs.declared.request.Io.{Io}
use Rattle.range_gate.specs.Gates.{is_waiting}
use Rattle.range_gate.specs.declared.phase.Phase.TheVariants.{Admitted as OpAdmitted, Ended}
use Rattle.stack_ops.specs.declared.op.Op.{Op}
use Rattle.stack_ops.specs.declared.reply.Reply.{Reply}
use Rattle.stack_laws.specs.Formed.{Named}
use Rattle.stack_laws.specs.Pieces.{bio_of, cut_to, greatest_piece}
use Rattle.stack_laws.specs.Plan.{Plan, request_at}
use Rattle.stack_laws.specs.Sound.{Sound}
use Rattle.stack_laws.specs.Steps.{Admit as StepAdmit, Cut as StepCut, End as StepEnd, Join as StepJoin, Step, can, chosen, enabled, step}
use Rattle.stack_laws.specs.View.{View, all_true, is_admitted, op_at}
use Rattle.stack_laws.proofs.Enabled.{chosen-can}
use Rattle.stack_laws.proofs.Formed.{longest-some, piece-group, piece-longest}
use Rattle.stack_laws.proofs.Keeps.{cut-some, cut-within, piece-some}
use Rattle.stack_steps.specs.declared.choice.Choice.{Choice}
use Rattle.stack_steps.specs.declared.choice.Choice.TheVariants.{Admit, Cut, End, Join}
use Rattle.stack_steps.specs.Does.{Cuts, Does, Holds, OfOp, Ready}
use Rattle.stack_steps.specs.Shows.{Means, live_ops, op_of}
use Rattle.block_path.specs.Acts.{State, act}
use Rattle.block_path.specs.Blocks.{Sent}
use Rattle.block_path.specs.Serial.{plain}
use Rattle.stack_walk_laws.specs.Passed.{acts_of, Setting, block_of, route}
use Rattle.stack_walk_laws.specs.Sending.{NoneBefore}
use Rattle.stack_core.specs.declared.kept.Room.TheVariants.{Nothing}
use Rattle.stack_core.specs.declared.sheet.Sheet.{Sheet}
use Rattle.stack_core.specs.declared.stack.Stack.{Stack}
use Rattle.rig_api.specs.declared.change.Change.{Change}
use Rattle.stack_walk_laws.specs.Flips.{Flips}
use Rattle.stack_walk_laws.proofs.Flipped.{flip_at}
use Rattle.stack_walk_laws.proofs.Overwriting.{between}
use Rattle.stack_ops.specs.declared.op.Op.TheVariants.{Overwrite}
use Rattle.stack_core.specs.Courses.{Course, Falling}
use Rattle.stack_core.specs.Done.{MadeBy, OpDone, WriteMade, WriteMapped}
use Rattle.stack_core.specs.Replies.{reply_of}
use Rattle.stack_walk_laws.specs.Sheets.{io_at, op_in}
use Rattle.stack_core.specs.Stacks.{IsStack, StackStays, plan_in, room_at}
use Rattle.stack_core.specs.Walking.{Data, Follow, GoesOn, IsChosen, IsOver, WalksBy, data_of, is_medium, op_left, status_of}
use Rattle.stack_core.proofs.Context.{places, stands}
use Rattle.stack_walk_laws.proofs.Facts.{op-ends, op-enters, there as there_is}
use Rattle.stack_core.proofs.FollowsEnd.{ends, joins}
use Rattle.stack_core.proofs.FollowsGroup.{Places}
use Rattle.stack_core.proofs.FollowsOp.{QuietBy, alone, op_fails, op_goes}
use Rattle.stack_core.proofs.FollowsStep.{admits, cuts, waiting_not_ended}
use Rattle.stack_core.proofs.OpWhole.{is_wholly}
use Rattle.stack_core.proofs.Spotted.{Stands}

-- ---- pages stay whole

pub made_whole : (dir : Dir) (o : Option Payload) (kind : GuardKind) (ty : PiType) (io : Io) (old new : List (List ℕ)) → AreWhole old → WriteMade dir o kind ty io.body old new → AreWhole new
made_whole Read o kind ty io old new w h = subst AreWhole (sym h) w
made_whole WriteDir None kind ty io old new w h = subst AreWhole (sym h) w
made_whole WriteDir (Some pi) kind ty io old new w h = by pi.owner h where
  by : (owner : Owner) → MadeBy owner pi kind ty io.body old new → AreWhole new
  by OfBlock m = whole_stays old new (range_of pi.tuples 0 (8 * pi.count)) m.others w
  by OfApp m = subst AreWhole (sym m) w

pub mapped_whole : (dir : Dir) (o : Option Payload) (ty : PiType) (k n lba : ℕ) (old new : List (List ℕ)) → AreWhole old → WriteMapped dir o ty k n lba old new → AreWhole new
mapped_whole Read o ty k n lba old new w h = subst AreWhole (sym h) w
mapped_whole WriteDir None ty k n lba old new w h = subst AreWhole (sym h) w
mapped_whole WriteDir (Some pi) ty k n lba old new w h = whole_stays old new (range_of pi.tuples (8 * k) (8 * n)) h.wrote.others w

some_not_zero : (c : ℕ) → 0 < c → eqb c 0 ≡ false
some_not_zero c h = by (eqb c 0) refl where
  by : (b : Bool) → eqb c 0 ≡ b → b ≡ false
  by false e = refl
  by true e = let z = eqb-true c 0 e in absurd (omega arith)

module _ {course : Course} (over : Setting) (n : ℕ) (opening : State) (es : List Sent) (left : List (List ℕ)) (s : Stack) (k : IsStack s) (o : IsOver over n opening s.sheet s.adapter s.host) (w : WalksBy course over n opening es left s) where
  abbrev pub plan : Plan
  plan = plan_in s.sheet

  abbrev pub ops : List Op
  ops = s.sheet.ops

  abbrev pub ios : List Io
  ios = s.sheet.ios.items

  abbrev pub v : View
  v = w.view

  pub sound : Sound plan v
  sound = w.holds.shows.sound

  pub stand : Stands over n (length opening.logs) plan ops ios s.pool
  stand = stands over n opening s k o

  pub lie : Places over plan ops ios
  lie = places over n opening s k o

  pub ops_there : length v.ops ≡ length ios
  ops_there = sound.ops ∙ (stand.plan.many ∙ k.fixed.ops)

  -- ---- what goes on

  module _ (s' : Stack) (stays : StackStays s s') where
    pub walked : (d' : Data) (w' : View) (now' left' : List (List ℕ)) → data_of s' ≡ d' → Holds plan s'.machine w' → GoesOn course over n opening es plan ops (data_of s) d' v w' now' → now' ≡ left' → WalksBy course over n opening es left' s'
    walked d' w' now' left' e h g l = record {
      view = w';
      holds = subst (λ (x : Sheet). Holds (plan_in x) s'.machine w') (sym stays.sheet) h;
      now = g.after;
      follow = subst (λ (x : Sheet). Follow course over n opening es (plan_in x) x.ops (data_of s') w' g.after) (sym stays.sheet) (subst (λ (d : Data). Follow course over n opening es plan ops d w' g.after) (sym e) g.follow);
      none_before = subst (λ (x : Sheet). NoneBefore (status_of (plan_in x) (data_of s') w') es) (sym stays.sheet) (subst (λ (d : Data). NoneBefore (status_of plan d w') es) (sym e) (g.none_before w.none_before));
      blocks = g.blocks ∙ l;
    }

  -- ---- the step that was chosen

  module _ (c : Choice) (ch : IsChosen s c) where
    abbrev pub taken : Step
    taken = chosen plan v ch.0

    pub some_step : 0 < length (enabled plan v)
    some_step = ch.2 v w.holds

    pub meant : Means plan v c taken
    meant = ch.1 v w.holds some_step

    pub can_be : can plan v taken ≡ true
    can_be = chosen-can plan v ch.0 some_step

    pub ready : Ready plan s.machine c
    ready = record { view = v; step = taken; holds = w.holds; can = can_be; means = meant }

  -- ---- groups are joined

  pub walk_joins : (s' : Stack) (d i j : ℕ) → StackStays s s' → IsChosen s (Join d i j) → Does plan s.machine (Join d i j) 0 s'.machine → data_of s' ≡ data_of s → WalksBy course over n opening es left s'
  walk_joins s' d i j stays ch does same =
      let t : taken (Join d i j) ch ≡ StepJoin d i j = meant (Join d i j) ch in
      let h : Holds plan s'.machine (step plan v (StepJoin d i j) 0 []) = subst (λ x. Holds plan s'.machine (step plan v x 0 [])) t (does v (taken (Join d i j) ch) w.holds (can_be (Join d i j) ch) (meant (Join d i j) ch)) in
      walked s' stays (data_of s) (step plan v (StepJoin d i j) 0 []) w.now.blocks left same h (joins over n opening es plan ops (data_of s) v w.now w.follow d i j 0) w.blocks

  -- ---- an op ends

  pub walk_ends : (s' : Stack) (q i : ℕ) → StackStays s s' → IsChosen s (End q) → Does plan s.machine (End q) 0 s'.machine → OfOp plan s.machine (End q) i →
      data_of s' ≡ record (data_of s) { rooms = set s.rooms.items i Nothing; replies = set s.replies.items i (reply_of (take (io_at ios i).count (drop (get_or s.kept.starts.items i 0) s.kept.held.items)) (room_at s.rooms.items i)) } → WalksBy course over n opening es left s'
  walk_ends s' q i stays ch does of same =
      let c = End q in
      let t : taken c ch ≡ StepEnd i = (meant c ch).1 ∙ ap StepEnd (sym (ap op_of (meant c ch).1) ∙ of v (taken c ch) w.holds (meant c ch)) in
      let h : Holds plan s'.machine (step plan v (StepEnd i) 0 []) = subst (λ x. Holds plan s'.machine (step plan v x 0 [])) t (does v (taken c ch) w.holds (can_be c ch) (meant c ch)) in
      let y : can plan v (StepEnd i) ≡ true = ap (can plan v) (sym t) ∙ can_be c ch in
      let a = (and_parts (is_admitted (op_at v i).phase) (all_true (op_at v i).settled) y).0 in
      let li = op-ends ops s.sheet.shifted.items ios s.sheet.table s.sheet.limits s.sheet.devices s.machine q i s.sheet.right.fine (ready c ch) of in
      let f = k.fixed.ops in
      let r = k.replies in
      let rm = k.rooms.count in
      let vo = ops_there in
      let cnt = lie.count i in
      let room = k.kept.within i li in
      let same' : data_of s' ≡ record (data_of s) { rooms = set s.rooms.items i Nothing; replies = set s.replies.items i (reply_of (take (request_at plan i).count (drop (get_or s.kept.starts.items i 0) s.kept.held.items)) (room_at s.rooms.items i)) }
      = same ∙ ap (λ x. record (data_of s) { rooms = set s.rooms.items i Nothing; replies = set s.replies.items i (reply_of (take x (drop (get_or s.kept.starts.items i 0) s.kept.held.items)) (room_at s.rooms.items i)) }) (sym cnt) in
      walked s' stays (record (data_of s) { rooms = set s.rooms.items i Nothing; replies = set s.replies.items i (reply_of (take (request_at plan i).count (drop (get_or s.kept.starts.items i 0) s.kept.held.items)) (room_at s.rooms.items i)) }) (step plan v (StepEnd i) 0 []) w.now.blocks left same' h
      (ends over n opening es plan ops (data_of s) v w.now w.follow i (omega arith) (omega arith) (omega arith) (omega arith) a (stand.plan.count i) (omega arith) 0) w.blocks

  -- ---- an op is admitted

  module _ (s' : Stack) (q i : ℕ) (stays : StackStays s s') (ch : IsChosen s (Admit q)) (does : Does plan s.machine (Admit q) 0 s'.machine) (of : OfOp plan s.machine (Admit q) i) where
    abbrev enters : Choice
    enters = Admit q

    entered : taken enters ch ≡ StepAdmit i
    entered = (meant enters ch).1 ∙ ap StepAdmit (sym (ap op_of (meant enters ch).1) ∙ of v (taken enters ch) w.holds (meant enters ch))

    abbrev pub after : View
    after = step plan v (StepAdmit i) 0 []

    pub holds_after : Holds plan s'.machine after
    holds_after = subst (λ x. Holds plan s'.machine (step plan v x 0 [])) entered (does v (taken enters ch) w.holds (can_be enters ch) (meant enters ch))

    pub waits : is_waiting (op_at v i).phase ≡ true
    waits = (and_parts (is_waiting (op_at v i).phase) _ (ap (can plan v) (sym entered) ∙ can_be enters ch)).0

    pub there : i < length ios
    there = op-enters ops s.sheet.shifted.items ios s.sheet.table s.sheet.limits s.sheet.devices s.machine q i s.sheet.right.fine (ready enters ch) of

    pub walk_admits : 0 < (io_at ios i).count → (pool : List (List ℕ)) → WriteMade (io_at ios i).dir (io_at ios i).pi s.adapter.kind s.host (io_at ios i).body s.pool pool → data_of s' ≡ record (data_of s) { pool = pool } → WalksBy course over n opening es left s'
    walk_admits some pool made same =
        let l = there in
        let f = k.fixed.ops in
        let vo = ops_there in
        let cnt = lie.count i in
        let e : after.ops ≡ set v.ops i (record (op_at v i) { phase = OpAdmitted }) = ap (λ b. set v.ops i (record (op_at v i) { phase = if b then Ended else OpAdmitted })) (some_not_zero (request_at plan i).count (omega arith)) in
        walked s' stays (record (data_of s) { pool = pool }) after w.now.blocks left same holds_after
        (admits over n opening es plan ops ios (data_of s) v w.now stand sound w.follow i (omega arith) l (omega arith) cnt (omega arith)
        after pool s.adapter.kind s.host waits e refl holds_after.shows.sound
        (made_whole (io_at ios i).dir (io_at ios i).pi s.adapter.kind s.host (io_at ios i) s.pool pool w.follow.whole made) (sym (ap (λ mode. mode.kind) o.mode)) o.host_is made) w.blocks

    pub walk_op : (io_at ios i).count ≡ 0 → (pool : List (List ℕ)) (reply : Reply) → QuietBy course reply → OpDone (op_in ops i) s.adapter.kind (room_at s.rooms.items i) s.pool pool reply →
        data_of s' ≡ record (data_of s) { pool = pool; rooms = set s.rooms.items i Nothing; replies = set s.replies.items i reply } → WalksBy course over n opening es (op_left over (op_in ops i) left) s'
    walk_op none pool reply quiet done same =
        let l = there in
        let f = k.fixed.ops in
        let r = k.replies in
        let vo = ops_there in
        let cnt = lie.count i in
        let lo : i < length ops = omega arith in
        let empty : (request_at plan i).count ≡ 0 = cnt ∙ none in
        let e : after.ops ≡ set v.ops i (record (op_at v i) { phase = Ended }) = ap (λ c. set v.ops i (record (op_at v i) { phase = if eqb c 0 then Ended else OpAdmitted })) empty in
        let single = alone over n opening es plan ops (data_of s) v w.now stand.ground stand.plan sound w.follow i lo (omega arith) (omega arith) empty in
        let wholly = is_wholly over (suc i) s.pool pool reply w.now w.follow.whole w.follow.bytes (op_in ops i) s.adapter.kind (room_at s.rooms.items i) single (k.rooms.can i l) (w.follow.suited i lo (waiting_not_ended (op_at v i).phase waits)) (o.seals i lo) (sym (ap (λ mode. mode.kind) o.mode)) done in
        let goes = op_goes over n opening es plan ops (data_of s) v w.now stand.ground stand.plan sound w.follow i lo (omega arith) (omega arith) empty after pool reply waits e refl holds_after.shows.sound wholly quiet in
        walked s' stays (record (data_of s) { pool = pool; rooms = set s.rooms.items i Nothing; replies = set s.replies.items i reply }) after (plain act (acts_of over (suc i) (op_in ops i)) w.now).blocks (op_left over (op_in ops i) left) same holds_after goes (wholly.blocks ∙ ap (op_left over (op_in ops i)) w.blocks)

  -- ---- a piece is cut

  pub walk_cuts : (s' : Stack) (q size : ℕ) (bio : Bio) (pool : List (List ℕ)) → StackStays s s' → IsChosen s (Cut q) → Does plan s.machine (Cut q) size s'.machine → Cuts plan s.machine q size bio →
      WriteMapped (io_at ios (bio.op - 1)).dir (io_at ios (bio.op - 1)).pi s.host bio.k bio.count bio.lba s.pool pool → data_of s' ≡ record (data_of s) { pool = pool } → WalksBy course over n opening es left s'
  walk_cuts s' q size bio pool stays ch does piece mapped same =
      let c = Cut q in
      let i = get_or (live_ops v) q 0 in
      let t : taken c ch ≡ StepCut i = (meant c ch).1 in
      let at = (op_at v i).cut in
      let count = cut_to size (greatest_piece plan i at) in
      let b = bio_of plan i at count in
      let is : bio ≡ b = piece v (taken c ch) w.holds (can_be c ch) (meant c ch) ∙ ap (λ x. bio_of plan (op_of x) (op_at v (op_of x)).cut (cut_to size (greatest_piece plan (op_of x) (op_at v (op_of x)).cut))) t in
      let after = step plan v (StepCut i) size [] in
      let h : Holds plan s'.machine after = subst (λ x. Holds plan s'.machine (step plan v x size [])) t (does v (taken c ch) w.holds (can_be c ch) (meant c ch)) in
      let y = and_parts (is_admitted (op_at v i).phase) _ (ap (can plan v) (sym t) ∙ can_be c ch) in
      let more = ltb-true at (request_at plan i).count y.1 in
      let straight = s.sheet.right.fine.straight in
      let most = piece-longest plan i at (longest-some plan i at straight more) in
      let one = cut-some size (greatest_piece plan i at) (piece-some plan i at) in
      let small = cut-within size (greatest_piece plan i at) (piece-some plan i at) in
      let group = piece-group plan i at count straight more (omega arith) (omega arith) in
      let named = All-head (Named plan b.dev) b [] group.named in
      let cnt = lie.count i in
      let fst = lie.first i in
      let inside = named.within in
      let li : i < length ios = there_is ios i (omega arith) in
      let f = k.fixed.ops in
      let vo = ops_there in
      let z : suc i - 1 ≡ i = omega arith in
      let lbas : (j : ℕ) → j < count → (route over (block_of (suc i) (io_at ios i).first (at + j))).lba ≡ b.lba + j
      = λ j lj. sym (lie.lba ((io_at ios i).first + (at + j))) ∙ (ap (λ x. (plan.place (x + (at + j))).lba) (sym fst) ∙ named.lba j lj) in
      let here : WriteMapped (io_at ios i).dir (io_at ios i).pi s.host at count b.lba s.pool pool
      = subst (λ x. WriteMapped (io_at ios x).dir (io_at ios x).pi s.host at count b.lba s.pool pool) z (subst (λ (x : Bio). WriteMapped (io_at ios (x.op - 1)).dir (io_at ios (x.op - 1)).pi s.host x.k x.count x.lba s.pool pool) is mapped) in
      walked s' stays (record (data_of s) { pool = pool }) after w.now.blocks left same h
      (cuts over n opening es plan ops ios (data_of s) v w.now stand sound w.follow i (omega arith) li (omega arith) cnt (omega arith)
      after pool count b.lba s.host y.0 refl refl (omega arith) (mapped_whole (io_at ios i).dir (io_at ios i).pi s.host at count b.lba s.pool pool w.follow.whole here) o.host_is lbas here) w.blocks

-- An overwrite is admitted whose store call fails.
module _ (flips : Flips) (over : Setting) (n : ℕ) (opening : State) (es : List Sent) (left : List (List ℕ)) (s : Stack) (k : IsStack s) (o : IsOver over n opening s.sheet s.adapter s.host) (w : WalksBy (Falling flips) over n opening es left s) (s' : Stack) (q i : ℕ) (stays : StackStays s s') (ch : IsChosen s (Admit q))
    (does : Does (plan_in s.sheet) s.machine (Admit q) 0 s'.machine) (of : OfOp (plan_in s.sheet) s.machine (Admit q) i) where
  pub walk_fails : (io_at s.sheet.ios.items i).count ≡ 0 → (pool : List (List ℕ)) (reply : Reply) → OpDone (op_in s.sheet.ops i) s.adapter.kind (room_at s.rooms.items i) s.pool pool reply → (dev lba : ℕ) (change : Change) → op_in s.sheet.ops i ≡ Overwrite dev lba change → is_medium reply ≡ true →
      (block : List ℕ) → length block ≡ length (get_or left (over.site.cell dev lba) []) → data_of s' ≡ record (data_of s) { pool = pool; rooms = set s.rooms.items i Nothing; replies = set s.replies.items i reply } →
      (flips' : Flips) × WalksBy (Falling flips') over n opening es (set left (over.site.cell dev lba) block) s'
  walk_fails none pool reply done dev lba change is medium block long same =
      let p = plan_in s.sheet in
      let ops = s.sheet.ops in
      let st = stand over n opening es left s k o w in
      let so = sound over n opening es left s k o w in
      let l = there over n opening es left s k o w s' q i stays ch does of in
      let wt = waits over n opening es left s k o w s' q i stays ch does of in
      let next = after over n opening es left s k o w s' q i stays ch does of in
      let ha = holds_after over n opening es left s k o w s' q i stays ch does of in
      let f = k.fixed.ops in
      let r = k.replies in
      let vo = ops_there over n opening es left s k o w in
      let cnt = (lie over n opening es left s k o w).count i in
      let lo : i < length ops = omega (arith, l, f) in
      let lv : i < length w.view.ops = omega (arith, l, vo) in
      let lr : i < length s.replies.items = omega (arith, l, f, r) in
      let empty : (request_at p i).count ≡ 0 = cnt ∙ none in
      let e : next.ops ≡ set w.view.ops i (record (op_at w.view i) { phase = Ended }) = ap (λ c. set w.view.ops i (record (op_at w.view i) { phase = if eqb c 0 then Ended else OpAdmitted })) empty in
      let single = alone over n opening es p ops (data_of s) w.view w.now st.ground st.plan so w.follow i lo lv lr empty in
      let wholly = is_wholly over (suc i) s.pool pool reply w.now w.follow.whole w.follow.bytes (op_in ops i) s.adapter.kind (room_at s.rooms.items i) single (k.rooms.can i l) (w.follow.suited i lo (waiting_not_ended (op_at w.view i).phase wt)) (o.seals i lo) (sym (ap (λ mode. mode.kind) o.mode)) done in
      let long' : length block ≡ length (get_or w.now.blocks (over.site.cell dev lba) []) = long ∙ ap (λ (x : List (List ℕ)). length (get_or x (over.site.cell dev lba) [])) (sym w.blocks) in
      let g = op_fails flips over n opening es p ops (data_of s) w.view w.now st.ground st.plan so w.follow i lo lv lr empty next pool reply wt e refl ha.shows.sound wholly dev lba change is medium block long' in
      let flips' = flip_at (suc (length (take i ops))) (between (get_or w.now.blocks (over.site.cell dev lba) []) block) flips in
      let d' : Data = record (data_of s) { pool = pool; rooms = set s.rooms.items i Nothing; replies = set s.replies.items i reply } in (
        flips',
        record {
          view = next;
          holds = subst (λ (x : Sheet). Holds (plan_in x) s'.machine next) (sym stays.sheet) ha;
          now = g.after;
          follow = subst (λ (x : Sheet). Follow (Falling flips') over n opening es (plan_in x) x.ops (data_of s') next g.after) (sym stays.sheet) (subst (λ (d : Data). Follow (Falling flips') over n opening es p ops d next g.after) (sym same) g.follow);
          none_before = subst (λ (x : Sheet). NoneBefore (status_of (plan_in x) (data_of s') next) es) (sym stays.sheet) (subst (λ (d : Data). NoneBefore (status_of p d next) es) (sym same) (g.none_before w.none_before));
          blocks = g.blocks ∙ ap (λ (x : List (List ℕ)). set x (over.site.cell dev lba) block) w.blocks;
        },
      )
