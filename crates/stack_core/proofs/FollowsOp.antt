-- An op that is no request is done whole: the stack follows on.
use Rattle.std.proofs.Common.{◌≡◌, ◌<◌, ℕ, zero, suc, true, false, List, [], ◌∷◌, ◌++◌, length, get_or, is_some, set, take, drop, refl, sym, ap, subst, ◌∙◌, arith, ⊎_elim}
use Rattle.std.proofs.lemmas.Bool.{cases_eq}
use Rattle.std.proofs.lemmas.List.{get_or-set_other, get_or-set_same}
use Rattle.range_gate.specs.Gates.{has_ended, is_waiting}
use Rattle.range_gate.specs.declared.phase.Phase.TheVariants.{Ended}
use Rattle.stack_ops.specs.declared.op.Op.{Op}
use Rattle.stack_ops.specs.declared.op.Op.TheVariants.{Overwrite, Wait}
use Rattle.stack_ops.specs.declared.reply.Reply.{Reply}
use Rattle.stack_ops.specs.declared.reply.Reply.TheVariants.{Silent}
use Rattle.stack_laws.specs.Plan.{Plan, request_at}
use Rattle.stack_laws.specs.Sound.{Sound}
use Rattle.stack_laws.specs.View.{OpView, View, is_admitted, no_op, op_at}
use Rattle.block_path.specs.Acts.{State, act, tell}
use Rattle.block_path.specs.Blocks.{Sent, silent}
use Rattle.block_path.specs.Serial.{plain, plain_tells}
use Rattle.stack_walk_laws.specs.Passed.{fates_of, IsPlaced, acts_of, Setting, each_from}
use Rattle.stack_walk_laws.specs.Gate.{BecomesDone, IsAlone, LetsIn}
use Rattle.stack_walk_laws.specs.Sending.{NoneBefore, is_carried}
use Rattle.stack_walk_laws.specs.Slots.{Done, Status}
use Rattle.stack_walk_laws.specs.Ground.{Ground, IsPlanOf}
use Rattle.stack_walk_laws.specs.Statuses.{fate_in}
use Rattle.stack_walk_laws.proofs.Letting.{lets_of}
use Rattle.stack_walk_laws.proofs.WalksMoving.{elsewhere}
use Rattle.stack_walk_laws.proofs.Spots.{cut_at, lets_in, placed_at, placed_front}
use Rattle.stack_walk_laws.proofs.WalksStanding.{is_done, waits}
use Rattle.stack_core.specs.declared.kept.Room.TheVariants.{Nothing}
use Rattle.rig_api.specs.declared.change.Change.{Change}
use Rattle.stack_walk_laws.specs.Flips.{Flips}
use Rattle.stack_walk_laws.proofs.Flipped.{flip_at, flip_here, flip_there}
use Rattle.stack_walk_laws.proofs.Overwriting.{between}
use Rattle.stack_core.specs.Courses.{Course, Falling, FollowsBy, Straight}
use Rattle.stack_core.specs.Rooms.{Suits}
use Rattle.stack_walk_laws.specs.Sheets.{op_in}
use Rattle.stack_core.specs.Stacks.{room_at}
use Rattle.stack_core.specs.Walking.{Data, FailedBy, Follow, GoesOn, IsReply, is_medium, shown_by, shown_in, status_of, why_in}
use Rattle.stack_core.proofs.Courses.{GoesTo, failed_by, no_flip_yet, whole_by}
use Rattle.stack_core.proofs.OpWhole.{IsWholly, at_first}
use Rattle.dix_adapter.proofs.GoingOut.{take-long}

-- an op's reply doesn't say that its store call failed, where it is known which did
abbrev pub QuietBy : Course → Reply → Type 0
QuietBy Straight reply = Unit {0}
QuietBy (Falling flips) reply = is_medium reply ≡ false

module _ {course : Course} (over : Setting) (n : ℕ) (opening : State) (es : List Sent) (p : Plan) (ops : List Op) (d : Data) (v : View) (now : State) (ground : Ground over n (length opening.logs) ops) (plan : IsPlanOf p over ops) (s : Sound p v) (h : Follow course over n opening es p ops d v now)
    (i : ℕ) (l : i < length ops) (lo : i < length v.ops) (lr : i < length d.replies) (empty : (request_at p i).count ≡ 0) where
  abbrev pub op : Op
  op = op_in ops i

  abbrev run : State
  run = plain act (acts_of over (suc i) op) now

  none : fates_of op ≡ 0
  none = sym (plan.count i) ∙ empty

  pub alone : IsAlone op
  alone = ⊎_elim (λ (a : IsAlone op). a) (λ (z : 0 < fates_of op). let e = none in absurd (omega arith)) (ground.kinds i l)

  pub front_long : length (take i ops) ≡ i
  front_long = take-long i ops (omega arith)

  pub split : ops ≡ take i ops ++ (op ∷ drop (suc i) ops)
  split = cut_at ops i Wait l

  module _ (w : View) (pool : List (List ℕ)) (reply : Reply) (a : is_waiting (op_at v i).phase ≡ true) (e : w.ops ≡ set v.ops i (record (op_at v i) { phase = Ended })) (c : w.commands ≡ v.commands) (sw : Sound p w) (does : IsWholly over (suc i) op pool reply now) where
    abbrev pub d' : Data
    d' = record d { pool = pool; rooms = set d.rooms i Nothing; replies = set d.replies i reply }

    abbrev pub old : ℕ → ℕ → Status
    old = status_of p d v

    abbrev pub new : ℕ → ℕ → Status
    new = status_of p d' w

    at : (j : ℕ) → op_at w j ≡ get_or (set v.ops i (record (op_at v i) { phase = Ended })) j no_op
    at j = ap (λ (x : List OpView). get_or x j no_op) e

    pub mine : op_at w i ≡ record (op_at v i) { phase = Ended }
    mine = at i ∙ get_or-set_same v.ops i (record (op_at v i) { phase = Ended }) no_op lo

    pub other : (j : ℕ) → (j ≡ i → ⊥) → op_at w j ≡ op_at v j
    other j ne = at j ∙ get_or-set_other v.ops i j (record (op_at v i) { phase = Ended }) no_op ne

    pub replied_same : (j : ℕ) → (j ≡ i → ⊥) → get_or d'.replies j Silent ≡ get_or d.replies j Silent
    replied_same j ne = get_or-set_other d.replies i j reply Silent ne

    shown_same : (j q : ℕ) → (j ≡ i → ⊥) → shown_in d'.replies j q ≡ shown_in d.replies j q
    shown_same j zero ne = ap shown_by (replied_same j ne)
    shown_same j (suc q) ne = refl

    shown_mine : (q : ℕ) → shown_in d'.replies i q ≡ at_first (shown_by reply) q
    shown_mine zero = ap shown_by (get_or-set_same d.replies i reply Silent lr)
    shown_mine (suc q) = refl

    is_over : (q : ℕ) → new (suc i) q ≡ Done (get_or (plain_tells act tell (acts_of over (suc i) op) now) q silent).shown
    is_over q =
        is_done (request_at p i).count (op_at w i) (shown_in d'.replies i q) (why_in d.starts d.held i q) (fate_in i q w.commands) q (ap (λ (x : OpView). is_waiting x.phase) mine) empty
        ∙ ap Done (shown_mine q ∙ does.shows q)

    away : (j q : ℕ) → (j ≡ suc i → ⊥) → new j q ≡ old j q
    away zero q ne = refl
    away (suc j) q ne =
        let other_op : j ≡ i → ⊥ = λ (f : j ≡ i). ne (ap suc f) in
        elsewhere p v w (shown_in d.replies) (shown_in d'.replies) (why_in d.starts d.held) j q c (other j other_op) (λ (z : (request_at p j).count ≡ 0). shown_same j q other_op)

    pub becomes : BecomesDone over (suc i) op now old new
    becomes = record { waits = λ q. waits (request_at p i).count (op_at v i) (shown_in d.replies i q) (why_in d.starts d.held i q) (fate_in i q v.commands) q a; done = is_over; elsewhere = away }

    pub lets : LetsIn over old 1 (take i ops) (suc i) op
    lets =
        lets_in over old ops i (omega arith)
        (lets_of over n (length opening.logs) p ops ground plan v s (shown_in d.replies) (why_in d.starts d.held) i l
        (λ (j : ℕ) (b : j < i) (x : p.conflicts j i ≡ true). sym (ap (λ (y : OpView). has_ended y.phase) (other j (λ (f : j ≡ i). omega arith))) ∙ sw.order j i b (let t = sw.ops in let u = plan.many in omega arith) (ap (λ (y : OpView). is_waiting y.phase) mine) x))

    goes : GoesTo course over n ops opening new es run.bytes run.blocks
    goes =
        let f = front_long in
        let nf : suc i ≡ suc (length (take i ops)) = omega arith in
        subst (λ (x : List Op). GoesTo course over n x opening new es run.bytes run.blocks) (sym split)
        (subst (λ (x : ℕ). GoesTo course over n (take i ops ++ (op ∷ drop (suc i) ops)) opening new es (plain act (acts_of over x op) now).bytes (plain act (acts_of over x op) now).blocks) (sym nf)
        (whole_by course over n (take i ops) (drop (suc i) ops) op opening now old new es ground.one (placed_front over n i ops ground.placed) (placed_at over n i ops l ground.placed) alone
        (subst (λ (x : ℕ). LetsIn over old 1 (take i ops) x op) nf lets)
        (subst (λ (x : ℕ). BecomesDone over x op now old new) nf becomes)
        (subst (λ (x : List Op). FollowsBy course over n x opening old now es) split h.follows)))

    pub begun_on : (j : ℕ) → is_admitted (op_at w j).phase ≡ true → 0 < (request_at p j).count
    begun_on j x =
        ⊎_elim
        (λ (f : j ≡ i). let z : false ≡ true = sym (ap (λ (y : ℕ). is_admitted (op_at w y).phase) f ∙ ap (λ (y : OpView). is_admitted y.phase) mine) ∙ x in absurd cc)
        (λ (ne : j ≡ i → ⊥). h.begun j (sym (ap (λ (y : OpView). is_admitted y.phase) (other j ne)) ∙ x))
        (cases_eq j i)

    pub replied_on : (j : ℕ) → j < length ops → has_ended (op_at w j).phase ≡ true → IsReply (op_in ops j) (each_from 0 (fates_of (op_in ops j)) (why_in d.starts d.held j)) (get_or d'.replies j Silent)
    replied_on j b x =
        ⊎_elim
        (λ (f : j ≡ i). subst (λ y. IsReply (op_in ops y) (each_from 0 (fates_of (op_in ops y)) (why_in d.starts d.held y)) (get_or d'.replies y Silent)) (sym f)
        (subst (IsReply op (each_from 0 (fates_of op) (why_in d.starts d.held i))) (sym (get_or-set_same d.replies i reply Silent lr)) (does.replies (each_from 0 (fates_of op) (why_in d.starts d.held i)))))
        (λ (ne : j ≡ i → ⊥). subst (IsReply (op_in ops j) (each_from 0 (fates_of (op_in ops j)) (why_in d.starts d.held j))) (sym (replied_same j ne)) (h.replied j b (sym (ap (λ (y : OpView). has_ended y.phase) (other j ne)) ∙ x)))
        (cases_eq j i)

    pub suited_on : (j : ℕ) → j < length ops → has_ended (op_at w j).phase ≡ false → Suits (op_in ops j) (room_at d'.rooms j)
    suited_on j b x =
        ⊎_elim
        (λ (f : j ≡ i). let z : true ≡ false = sym (ap (λ (y : ℕ). has_ended (op_at w y).phase) f ∙ ap (λ (y : OpView). has_ended y.phase) mine) ∙ x in absurd cc)
        (λ (ne : j ≡ i → ⊥). rw (get_or-set_other d.rooms i j Nothing Nothing ne) (h.suited j b (sym (ap (λ (y : OpView). has_ended y.phase) (other j ne)) ∙ x)))
        (cases_eq j i)

    pub none_carried : NoneBefore old es → NoneBefore new es
    none_carried none j q x =
        ⊎_elim
        (λ (f : j ≡ suc i). none j q (ap (λ (y : ℕ). is_carried (old y q)) f ∙ ap is_carried (becomes.waits q)))
        (λ (ne : j ≡ suc i → ⊥). none j q (sym (ap is_carried (away j q ne)) ∙ x))
        (cases_eq j (suc i))

    failed_here : (c : Course) → FollowsBy c over n ops opening old now es → QuietBy c reply → FailedBy c (suc i) op reply
    failed_here Straight f q = tt
    failed_here (Falling flips) f q = λ e. ap is_some (no_flip_yet flips old (suc i) f.1.1 (becomes.waits 0)) ∙ sym q

    failed_on : QuietBy course reply → (j : ℕ) → j < length ops → has_ended (op_at w j).phase ≡ true → FailedBy course (suc j) (op_in ops j) (get_or d'.replies j Silent)
    failed_on q j b x =
        ⊎_elim
        (λ (f : j ≡ i). subst (λ y. FailedBy course (suc y) (op_in ops y) (get_or d'.replies y Silent)) (sym f)
        (subst (FailedBy course (suc i) op) (sym (get_or-set_same d.replies i reply Silent lr)) (failed_here course h.follows q)))
        (λ (ne : j ≡ i → ⊥). subst (FailedBy course (suc j) (op_in ops j)) (sym (replied_same j ne)) (h.failed j b (sym (ap (λ (y : OpView). has_ended y.phase) (other j ne)) ∙ x)))
        (cases_eq j i)

    pub op_goes : QuietBy course reply → GoesOn course over n opening es p ops d d' v w run.blocks
    op_goes q = record {
      after = goes.after;
      follow = record { bytes = goes.bytes_are ∙ sym does.bytes; whole = does.whole; follows = goes.follows; begun = begun_on; replied = replied_on; failed = failed_on q; suited = suited_on };
      blocks = goes.blocks_are;
      none_before = none_carried;
    }

-- an overwrite's store call fails: it flips its block from here on
module _ (flips : Flips) (over : Setting) (n : ℕ) (opening : State) (es : List Sent) (p : Plan) (ops : List Op) (d : Data) (v : View) (now : State) (ground : Ground over n (length opening.logs) ops) (plan : IsPlanOf p over ops) (s : Sound p v) (h : Follow (Falling flips) over n opening es p ops d v now)
    (i : ℕ) (l : i < length ops) (lo : i < length v.ops) (lr : i < length d.replies) (empty : (request_at p i).count ≡ 0)
    (w : View) (pool : List (List ℕ)) (reply : Reply) (a : is_waiting (op_at v i).phase ≡ true) (e : w.ops ≡ set v.ops i (record (op_at v i) { phase = Ended })) (c : w.commands ≡ v.commands) (sw : Sound p w) (does : IsWholly over (suc i) (op_in ops i) pool reply now)
    (dev lba : ℕ) (change : Change) (is : op_in ops i ≡ Overwrite dev lba change) (medium : is_medium reply ≡ true) (left : List ℕ) (long : length left ≡ length (get_or now.blocks (over.site.cell dev lba) [])) where
  abbrev front : List Op
  front = take i ops

  abbrev behind : List Op
  behind = drop (suc i) ops

  abbrev cell : ℕ
  cell = over.site.cell dev lba

  abbrev flips' : Flips
  flips' = flip_at (suc (length front)) (between (get_or now.blocks cell []) left) flips

  number_is : suc i ≡ suc (length front)
  number_is = ap suc (sym (front_long over n opening es p ops d v now ground plan s h i l lo lr empty))

  abbrev was : ℕ → ℕ → Status
  was = status_of p d v

  abbrev then : ℕ → ℕ → Status
  then = status_of p (d' over n opening es p ops d v now ground plan s h i l lo lr empty w pool reply a e c sw does) w

  whole : ops ≡ front ++ (Overwrite dev lba change ∷ behind)
  whole = split over n opening es p ops d v now ground plan s h i l lo lr empty ∙ ap (λ op. front ++ (op ∷ behind)) is

  goes_failed : GoesTo (Falling flips') over n ops opening then es now.bytes (set now.blocks cell left)
  goes_failed =
      subst (λ (x : List Op). GoesTo (Falling flips') over n x opening then es now.bytes (set now.blocks cell left)) (sym whole)
      (failed_by flips over n front behind dev lba change left opening now was then es ground.one (placed_front over n i ops ground.placed) (subst (IsPlaced over n) is (placed_at over n i ops l ground.placed))
      (subst (LetsIn over was 1 front (suc (length front))) is (subst (λ x. LetsIn over was 1 front x (op_in ops i)) number_is (lets over n opening es p ops d v now ground plan s h i l lo lr empty w pool reply a e c sw does)))
      (subst (λ op. BecomesDone over (suc (length front)) op now was then) is (subst (λ x. BecomesDone over x (op_in ops i) now was then) number_is (becomes over n opening es p ops d v now ground plan s h i l lo lr empty w pool reply a e c sw does)))
      long (subst (λ (x : List Op). FollowsBy (Falling flips) over n x opening was now es) whole h.follows))

  failed_then : (j : ℕ) → j < length ops → has_ended (op_at w j).phase ≡ true → FailedBy (Falling flips') (suc j) (op_in ops j) (get_or (set d.replies i reply) j Silent)
  failed_then j b x over_it =
      ⊎_elim
      (λ (f : j ≡ i). ap is_some (ap flips' (ap suc f ∙ number_is) ∙ flip_here (suc (length front)) (between (get_or now.blocks cell []) left) flips) ∙ (sym medium ∙ sym (ap is_medium (ap (λ y. get_or (set d.replies i reply) y Silent) f ∙ get_or-set_same d.replies i reply Silent lr))))
      (λ (ne : j ≡ i → ⊥).
      ap is_some (flip_there (suc (length front)) (between (get_or now.blocks cell []) left) flips (suc j) (λ q. ne (let z = number_is in omega (arith, q, z))))
      ∙ (h.failed j b (sym (ap (λ (y : OpView). has_ended y.phase) (other over n opening es p ops d v now ground plan s h i l lo lr empty w pool reply a e c sw does j ne)) ∙ x) over_it
      ∙ sym (ap is_medium (get_or-set_other d.replies i j reply Silent ne))))
      (cases_eq j i)

  pub op_fails : GoesOn (Falling flips') over n opening es p ops d (d' over n opening es p ops d v now ground plan s h i l lo lr empty w pool reply a e c sw does) v w (set now.blocks cell left)
  op_fails = record {
    after = goes_failed.after;
    follow = record {
      bytes = goes_failed.bytes_are ∙ sym (does.bytes ∙ ap (λ op. (plain act (acts_of over (suc i) op) now).bytes) is);
      whole = does.whole;
      follows = goes_failed.follows;
      begun = begun_on over n opening es p ops d v now ground plan s h i l lo lr empty w pool reply a e c sw does;
      replied = replied_on over n opening es p ops d v now ground plan s h i l lo lr empty w pool reply a e c sw does;
      failed = failed_then;
      suited = suited_on over n opening es p ops d v now ground plan s h i l lo lr empty w pool reply a e c sw does;
    };
    blocks = goes_failed.blocks_are;
    none_before = none_carried over n opening es p ops d v now ground plan s h i l lo lr empty w pool reply a e c sw does;
  }
