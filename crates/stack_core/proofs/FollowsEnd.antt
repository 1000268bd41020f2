-- An op ends, or groups are joined: the stack follows on.
use Rattle.std.proofs.Common.{◌≡◌, ◌<◌, ◌≤◌, ℕ, zero, suc, ◌+◌, true, false, List, [], length, get_or, set, take, drop, Option, refl, sym, ap, subst, ◌∙◌, arith, ⊎_elim}
use Rattle.std.proofs.lemmas.Bool.{cases_eq, false≢true}
use Rattle.std.proofs.lemmas.List.{get_or-set_other, get_or-set_same}
use Rattle.bio_core.specs.declared.fate.Why.{Why}
use Rattle.range_gate.specs.Gates.{has_ended, is_waiting}
use Rattle.range_gate.specs.declared.phase.Phase.TheVariants.{Ended}
use Rattle.stack_ops.specs.declared.op.Op.{Op}
use Rattle.stack_ops.specs.declared.op.Op.TheVariants.{Fetch, FetchPi, Fill, Overwrite, Put, Seal, Show, Wait, Write, WritePi}
use Rattle.stack_ops.specs.declared.reply.Reply.{Reply}
use Rattle.stack_ops.specs.declared.reply.Reply.TheVariants.{Silent}
use Rattle.stack_laws.specs.Plan.{Plan, request_at}
use Rattle.stack_laws.specs.View.{OpView, View, is_admitted, no_op, op_at}
use Rattle.stack_laws.specs.Steps.{End, Join, step}
use Rattle.stack_laws.proofs.Ops.{AtSet, Other, Past, Same, at_set}
use Rattle.stack_laws.proofs.Keeps.{admitted-ended, admitted-waits}
use Rattle.block_path.specs.Acts.{State}
use Rattle.block_path.specs.Blocks.{Sent}
use Rattle.stack_walk_laws.specs.Passed.{fates_of, bad_from as walk_bad, whole_or_bad, Setting, each_from}
use Rattle.stack_walk_laws.specs.Sending.{NoneBefore, is_carried}
use Rattle.stack_walk_laws.specs.Slots.{Status}
use Rattle.stack_walk_laws.proofs.WalksMoving.{still}
use Rattle.stack_core.specs.declared.kept.Room.{Room}
use Rattle.stack_core.specs.declared.kept.Room.TheVariants.{Nothing}
use Rattle.bio_core.specs.declared.fate.Fate.{Fate}
use Rattle.stack_core.specs.Replies.{bad_from, reply_of, whole_or}
use Rattle.stack_core.specs.Rooms.{Suits}
use Rattle.stack_walk_laws.specs.Sheets.{op_in}
use Rattle.stack_core.specs.Stacks.{room_at}
use Rattle.stack_core.specs.Walking.{Data, FailedBy, Follow, GoesOn, IsReply, shown_by, shown_in, status_of, why_in}
use Rattle.stack_ops.specs.Ops.{is_overwrite}
use Rattle.stack_core.specs.Courses.{Course, Falling, Straight}
use Rattle.stack_core.proofs.Courses.{same_by}
use Rattle.stack_core.proofs.Listed.{listed_as}

-- statuses that say the same leave what is on record
pub none_same : (old new : ℕ → ℕ → Status) (es : List Sent) → ((i k : ℕ) → new i k ≡ old i k) → NoneBefore old es → NoneBefore new es
none_same old new es e h i k f = h i k (sym (ap is_carried (e i k)) ∙ f)

-- a request's room is for its bad blocks
request_reply : (op : Op) (whys : List (Option Why)) (reply : Reply) → 0 < fates_of op → reply ≡ whole_or_bad (walk_bad 0 whys) → IsReply op whys reply
request_reply (Fill seg byte) whys reply h e = absurd (omega arith)
request_reply (Put page off bytes) whys reply h e = absurd (omega arith)
request_reply (Show seg) whys reply h e = absurd (omega arith)
request_reply (Seal n body tuples app rtag) whys reply h e = absurd (omega arith)
request_reply (Write v n body app) whys reply h e = e
request_reply (Fetch v n body) whys reply h e = e
request_reply (WritePi v n body tuples) whys reply h e = e
request_reply (FetchPi v n body tuples) whys reply h e = e
request_reply (Overwrite dev lba change) whys reply h e = absurd (omega arith)
request_reply Wait whys reply h e = absurd (omega arith)

room_of_request : (op : Op) (room : Room) (fates : List Fate) → 0 < fates_of op → Suits op room → reply_of fates room ≡ whole_or (bad_from 0 fates)
room_of_request (Fill seg byte) room fates h s = absurd (omega arith)
room_of_request (Put page off bytes) room fates h s = absurd (omega arith)
room_of_request (Show seg) room fates h s = absurd (omega arith)
room_of_request (Seal n body tuples app rtag) room fates h s = absurd (omega arith)
room_of_request (Write v n body app) room fates h s = rw s.1 refl
room_of_request (Fetch v n body) room fates h s = rw s.1 refl
room_of_request (WritePi v n body tuples) room fates h s = rw s.1 refl
room_of_request (FetchPi v n body tuples) room fates h s = rw s.1 refl
room_of_request (Overwrite dev lba change) room fates h s = absurd (omega arith)
room_of_request Wait room fates h s = absurd (omega arith)

module _ {course : Course} (over : Setting) (n : ℕ) (opening : State) (es : List Sent) (p : Plan) (ops : List Op) (d : Data) (v : View) (now : State) (h : Follow course over n opening es p ops d v now) where
  -- two groups become one
  pub joins : (dev i j cut : ℕ) → GoesOn course over n opening es p ops d d v (step p v (Join dev i j) cut []) now.blocks
  joins dev i j cut =
      let w = step p v (Join dev i j) cut [] in
      let e = still p v w (shown_in d.replies) (shown_in d.replies) (why_in d.starts d.held) refl (λ j. refl) (λ j. refl) (λ j. refl) (λ j q z. refl) in
      record {
        after = now;
        follow = record { bytes = h.bytes; whole = h.whole; follows = same_by course over n ops opening now (status_of p d v) (status_of p d w) es e h.follows; begun = h.begun; replied = h.replied; failed = h.failed; suited = h.suited };
        blocks = refl;
        none_before = none_same (status_of p d v) (status_of p d w) es e;
      }

  module _ (i : ℕ) (l : i < length ops) (lr : i < length d.replies) (lo : i < length v.ops) (lm : i < length d.rooms) (a : is_admitted (op_at v i).phase ≡ true) (count : (request_at p i).count ≡ fates_of (op_in ops i)) (room : get_or d.starts i 0 + (request_at p i).count ≤ length d.held) where
    abbrev reply : Reply
    reply = reply_of (take (request_at p i).count (drop (get_or d.starts i 0) d.held)) (room_at d.rooms i)

    abbrev ended : Data
    ended = record d { rooms = set d.rooms i Nothing; replies = set d.replies i reply }

    abbrev w : ℕ → View
    w cut = step p v (End i) cut []

    abbrev done : OpView
    done = record (op_at v i) { phase = Ended }

    some : 0 < (request_at p i).count
    some = h.begun i a

    phases : (j : ℕ) → is_waiting (get_or (set v.ops i done) j no_op).phase ≡ is_waiting (op_at v j).phase
    phases j = by (at_set v.ops i done no_op j) where
      by : AtSet v.ops i done no_op j → is_waiting (get_or (set v.ops i done) j no_op).phase ≡ is_waiting (op_at v j).phase
      by (Same e k q) = ap (λ (o : OpView). is_waiting o.phase) q ∙ sym (ap (λ x. is_waiting (op_at v x).phase) e ∙ admitted-waits (op_at v i).phase a)
      by (Other ne q) = ap (λ (o : OpView). is_waiting o.phase) q
      by (Past k q) = ap (λ (o : OpView). is_waiting o.phase) q

    cuts : (j : ℕ) → (get_or (set v.ops i done) j no_op).cut ≡ (op_at v j).cut
    cuts j = by (at_set v.ops i done no_op j) where
      by : AtSet v.ops i done no_op j → (get_or (set v.ops i done) j no_op).cut ≡ (op_at v j).cut
      by (Same e k q) = ap (λ (o : OpView). o.cut) q ∙ sym (ap (λ x. (op_at v x).cut) e)
      by (Other ne q) = ap (λ (o : OpView). o.cut) q
      by (Past k q) = ap (λ (o : OpView). o.cut) q

    marks : (j : ℕ) → (get_or (set v.ops i done) j no_op).settled ≡ (op_at v j).settled
    marks j = by (at_set v.ops i done no_op j) where
      by : AtSet v.ops i done no_op j → (get_or (set v.ops i done) j no_op).settled ≡ (op_at v j).settled
      by (Same e k q) = ap (λ (o : OpView). o.settled) q ∙ sym (ap (λ x. (op_at v x).settled) e)
      by (Other ne q) = ap (λ (o : OpView). o.settled) q
      by (Past k q) = ap (λ (o : OpView). o.settled) q

    shown_same : (j q : ℕ) → (request_at p j).count ≡ 0 → shown_in ended.replies j q ≡ shown_in d.replies j q
    shown_same j zero z = ap shown_by (get_or-set_other d.replies i j reply Silent (λ (e : j ≡ i). let t = ap (λ x. (request_at p x).count) e in let k = some in omega arith))
    shown_same j (suc q) z = refl

    statuses : (cut : ℕ) (j q : ℕ) → status_of p ended (w cut) j q ≡ status_of p d v j q
    statuses cut = still p v (w cut) (shown_in d.replies) (shown_in ended.replies) (why_in d.starts d.held) refl phases cuts marks shown_same

    its_reply : IsReply (op_in ops i) (each_from 0 (fates_of (op_in ops i)) (why_in d.starts d.held i)) reply
    its_reply =
        let k = some in
        request_reply (op_in ops i) (each_from 0 (fates_of (op_in ops i)) (why_in d.starts d.held i)) reply (omega arith)
        (room_of_request (op_in ops i) (room_at d.rooms i) (take (request_at p i).count (drop (get_or d.starts i 0) d.held)) (omega arith) (h.suited i l (admitted-ended (op_at v i).phase a))
        ∙ (listed_as d.starts d.held i (request_at p i).count room ∙ ap (λ x. whole_or_bad (walk_bad 0 (each_from 0 x (why_in d.starts d.held i)))) count))

    begun_on : (j : ℕ) → is_admitted (get_or (set v.ops i done) j no_op).phase ≡ true → 0 < (request_at p j).count
    begun_on j e = by (at_set v.ops i done no_op j) where
      by : AtSet v.ops i done no_op j → 0 < (request_at p j).count
      by (Same f k q) = let x : false ≡ true = sym (ap (λ (o : OpView). is_admitted o.phase) q) ∙ e in cc
      by (Other ne q) = h.begun j (sym (ap (λ (o : OpView). is_admitted o.phase) q) ∙ e)
      by (Past k q) = h.begun j (sym (ap (λ (o : OpView). is_admitted o.phase) q) ∙ e)

    replied_on : (j : ℕ) → j < length ops → has_ended (get_or (set v.ops i done) j no_op).phase ≡ true → IsReply (op_in ops j) (each_from 0 (fates_of (op_in ops j)) (why_in d.starts d.held j)) (get_or ended.replies j Silent)
    replied_on j b e =
        ⊎_elim
        (λ (f : j ≡ i). subst (λ x. IsReply (op_in ops x) (each_from 0 (fates_of (op_in ops x)) (why_in d.starts d.held x)) (get_or ended.replies x Silent)) (sym f) (rw (get_or-set_same d.replies i reply Silent lr) its_reply))
        (λ (ne : j ≡ i → ⊥). rw (get_or-set_other d.replies i j reply Silent ne) (h.replied j b (sym (ap (λ (o : OpView). has_ended o.phase) (get_or-set_other v.ops i j done no_op ne)) ∙ e)))
        (cases_eq j i)

    request_failed : (c : Course) (op : Op) → 0 < fates_of op → (x : ℕ) (r : Reply) → FailedBy c x op r
    request_failed Straight op k x r = tt
    request_failed (Falling flips) op k x r = λ e. absurd (no_blocks op k e) where
      no_blocks : (op : Op) → 0 < fates_of op → is_overwrite op ≡ true → ⊥
      no_blocks (Fill seg byte) k e = absurd (omega (arith, k))
      no_blocks (Put page off bytes) k e = absurd (omega (arith, k))
      no_blocks (Show seg) k e = absurd (omega (arith, k))
      no_blocks (Seal n body tuples app rtag) k e = absurd (omega (arith, k))
      no_blocks (Write v n body app) k e = false≢true e
      no_blocks (Fetch v n body) k e = false≢true e
      no_blocks (WritePi v n body tuples) k e = false≢true e
      no_blocks (FetchPi v n body tuples) k e = false≢true e
      no_blocks (Overwrite dev lba change) k e = absurd (omega (arith, k))
      no_blocks Wait k e = absurd (omega (arith, k))

    failed_on : (j : ℕ) → j < length ops → has_ended (get_or (set v.ops i done) j no_op).phase ≡ true → FailedBy course (suc j) (op_in ops j) (get_or ended.replies j Silent)
    failed_on j b e =
        let k = some in
        ⊎_elim
        (λ (f : j ≡ i). request_failed course (op_in ops j) (subst (λ x. 0 < fates_of (op_in ops x)) (sym f) (omega (arith, k, count))) (suc j) (get_or ended.replies j Silent))
        (λ (ne : j ≡ i → ⊥). rw (get_or-set_other d.replies i j reply Silent ne) (h.failed j b (sym (ap (λ (o : OpView). has_ended o.phase) (get_or-set_other v.ops i j done no_op ne)) ∙ e)))
        (cases_eq j i)

    suited_on : (j : ℕ) → j < length ops → has_ended (get_or (set v.ops i done) j no_op).phase ≡ false → Suits (op_in ops j) (room_at ended.rooms j)
    suited_on j b e =
        ⊎_elim
        (λ (f : j ≡ i). let x : true ≡ false = sym (ap (λ (o : OpView). has_ended o.phase) (ap (λ y. get_or (set v.ops i done) y no_op) f ∙ get_or-set_same v.ops i done no_op lo)) ∙ e in cc)
        (λ (ne : j ≡ i → ⊥). rw (get_or-set_other d.rooms i j Nothing Nothing ne) (h.suited j b (sym (ap (λ (o : OpView). has_ended o.phase) (get_or-set_other v.ops i j done no_op ne)) ∙ e)))
        (cases_eq j i)

    pub ends : (cut : ℕ) → GoesOn course over n opening es p ops d ended v (w cut) now.blocks
    ends cut = record {
      after = now;
      follow = record { bytes = h.bytes; whole = h.whole; follows = same_by course over n ops opening now (status_of p d v) (status_of p ended (w cut)) es (statuses cut) h.follows; begun = begun_on; replied = replied_on; failed = failed_on; suited = suited_on };
      blocks = refl;
      none_before = none_same (status_of p d v) (status_of p ended (w cut)) es (statuses cut);
    }
