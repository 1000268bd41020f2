-- From blocks to ops: what a mirror replies to a read, and what it leaves in the pages.
use Rattle.std.proofs.Common.{◌≡◌, ◌<◌, ◌≤◌, ℕ, zero, suc, ◌+◌, ◌-◌, Bool, true, false, List, [], ◌∷◌, ◌++◌, length, map, get_or, take, replicate, None, refl, sym, ap, subst, ◌∙◌, arith}
use Rattle.std.proofs.lemmas.List.{append_assoc, append-nil, get_or-replicate, length-replicate}
use Rattle.page_pool.specs.declared.segs.Seg.{Seg}
use Rattle.page_pool.specs.Cells.{gather, share_a_cell}
use Rattle.integrity_payload.specs.declared.payload.Owner.{Owner}
use Rattle.integrity_payload.specs.declared.payload.Owner.TheVariants.{Block as OfBlock}
use Rattle.stack_ops.specs.declared.op.Op.{Op}
use Rattle.stack_ops.specs.declared.op.Op.TheVariants.{Fetch, FetchPi, Fill, Overwrite, Put, Seal, Show, Wait, Write, WritePi}
use Rattle.stack_ops.specs.declared.reply.Reply.TheVariants.{Silent, Whole}
use Rattle.range_gate.specs.Cells.{cells_of}
use Rattle.volume_table.specs.declared.device.DeviceInfo.{DeviceInfo}
use Rattle.block_path.specs.Acts.{State, act, effect}
use Rattle.block_path.specs.Blocks.{ActAnswer}
use Rattle.block_path.specs.Serial.{plain, plain_tells}
use Rattle.block_path.proofs.Cells.{AllBelow, below, distinct, gather_past}
use Rattle.block_path.proofs.InTurn.{plain_append}
use Rattle.walk_laws.specs.FirstLayer.{last_accepted}
use Rattle.walk_laws.specs.Past.{Brought, Event, steps_from}
use Rattle.walk_laws.specs.ScriptWalk.{act_of, bad_from, reply_of, request_reply, whole_or_bad}
use Rattle.walk_laws.specs.Settings.{Block, Setting, block_of}
use Rattle.walk_laws.specs.Steps.{Reads, Step, Writes, body_of, each_from, steps_of}
use Rattle.walk_laws.proofs.CalmRuns.{part_length}
use Rattle.walk_laws.proofs.InSteps.{acts_stepped, each_split, same_pages, steps_split}
use Rattle.run_laws.proofs.Parts.{block_below, block_distinct, blocks_apart, landed}
use Rattle.mirror_laws.specs.Mirror.{Mirror, accepted, all_asked, answer, asked, asks, count_of, done, fresh, marks_of, mirror_opened, mirror_past, mirror_replies, replies_from, twin}
use Rattle.mirror_laws.specs.OneGood.{AllBind, AllSpare, Binds, IsMirrorRun, ReadsLast, last_of, on_leg, script_asks}
use Rattle.run_laws.proofs.Along.{begins}
use Rattle.run_laws.proofs.CleanWhereRead.{on_clean_volume}
use Rattle.run_laws.proofs.Layers.{checked}
use Rattle.run_laws.proofs.Reading.{checked_form}
use Rattle.mirror_laws.proofs.Delivery.{AllFitIn, Gets, read_along}
use Rattle.mirror_laws.proofs.Holds.{Has}
use Rattle.mirror_laws.proofs.Known.{AreKnown}

-- what reads leave alone
module _ (m : Setting) (half : ℕ) (count : ℕ → ℕ) where
  asked_past : (f0 f1 d : Bool) (b c : Block) (owner : Owner) (to at : List ℕ) (s : State) → share_a_cell at to ≡ false → gather 0 at (plain act (map (act_of m) (asked f0 f1 d (Reads b owner to) (Reads c owner to))) s).bytes ≡ gather 0 at s.bytes
  asked_past true true true b c owner to at s h = gather_past 0 at to (effect (act_of m (Reads b owner to)) s).written.bytes s.bytes h
  asked_past true true false b c owner to at s h =
      let next = act (act_of m (Reads b owner to)) s in
      gather_past 0 at to (effect (act_of m (Reads c owner to)) next).written.bytes next.bytes h ∙ gather_past 0 at to (effect (act_of m (Reads b owner to)) s).written.bytes s.bytes h
  asked_past true false d b c owner to at s h = gather_past 0 at to (effect (act_of m (Reads b owner to)) s).written.bytes s.bytes h
  asked_past false f1 d b c owner to at s h = gather_past 0 at to (effect (act_of m (Reads c owner to)) s).written.bytes s.bytes h

  step_pages : (step : Step) (s : Mirror) → length (done m half count step s).state.bytes ≡ length s.state.bytes
  step_pages step s = ap (λ (c : State). length c.bytes) (acts_stepped (act_of m) (asks m half count step s) s.state) ∙ same_pages (act_of m) (asks m half count step s) s.state

  pub all_pages : (steps : List Step) (s : Mirror) → length (plain (done m half count) steps s).state.bytes ≡ length s.state.bytes
  all_pages [] s = refl
  all_pages (step ∷ steps) s = all_pages steps (done m half count step s) ∙ step_pages step s

  past_append : (xs ys : List Step) (s : Mirror) (past : List Event) → mirror_past m half count (xs ++ ys) s past ≡ mirror_past m half count ys (plain (done m half count) xs s) (mirror_past m half count xs s past)
  past_append [] ys s past = refl
  past_append (x ∷ xs) ys s past = past_append xs ys (done m half count x s) (accepted m half count x s ++ past)

  -- the blocks of a read
  module _ (i v : ℕ) (body : List Seg) where
    abbrev pub read_at : ℕ → Step
    read_at k = Reads (block_of i v k) OfBlock (body_of m.size body k)

    reads_past : (j r : ℕ) (s : Mirror) (past : List Event) → mirror_past m half count (each_from j r read_at) s past ≡ past
    reads_past j zero s past = refl
    reads_past j (suc r) s past = reads_past (suc j) r (done m half count (read_at j) s) past

    later_reads : (at : List ℕ) (j r : ℕ) (s : Mirror) → ((l : ℕ) → j ≤ l → share_a_cell at (body_of m.size body l) ≡ false) →
        gather 0 at (plain (done m half count) (each_from j r read_at) s).state.bytes ≡ gather 0 at s.state.bytes
    later_reads at j zero s h = refl
    later_reads at j (suc r) s h =
        let b = block_of i v j in
        later_reads at (suc j) r (done m half count (read_at j) s) (λ l k. h l (omega (arith, k)))
        ∙ asked_past (marks_of s.marks b.virt).leg0 (marks_of s.marks b.virt).leg1 _ b (twin m half count b) OfBlock (body_of m.size body j) at s.state (h j (omega arith))

  reply_at : (i : ℕ) (before : List Op) (op : Op) (after : List Op) (s : Mirror) →
      get_or (replies_from m half count i (before ++ (op ∷ after)) s) (length before) Silent
      ≡ reply_of (m.fails (i + length before)) op (plain_tells (done m half count) (answer m half count) (steps_of m (i + length before) op) (plain (done m half count) (steps_from m i before) s))
  reply_at i [] op after s =
      let e : i ≡ i + 0 = omega arith in ap (λ i. reply_of (m.fails i) op (plain_tells (done m half count) (answer m half count) (steps_of m i op) s)) e
  reply_at i (first ∷ before) op after s =
      let e : suc i + length before ≡ i + suc (length before) = omega arith in
      let next = plain (done m half count) (steps_of m i first) s in
      reply_at (suc i) before op after next
      ∙ ap (λ j. reply_of (m.fails j) op (plain_tells (done m half count) (answer m half count) (steps_of m j op) (plain (done m half count) (steps_from m (suc i) before) next))) e
      ∙ ap (λ t. reply_of (m.fails (i + suc (length before))) op (plain_tells (done m half count) (answer m half count) (steps_of m (i + suc (length before)) op) t)) (sym (plain_append (done m half count) (steps_of m i first) (steps_from m (suc i) before) s))

module _ (m' : Setting) (devices : List DeviceInfo) (half : ℕ) (ops : List Op) (opening : State) (run : IsMirrorRun (checked m') devices half ops opening) where
  abbrev m : Setting
  m = checked m'

  abbrev count : ℕ → ℕ
  count = count_of ops

  abbrev pub FitAll : List Step → Type 0
  FitAll steps = AllFitIn m' opening half (count_of ops) run.unshifted devices run.lies run.cells run.long steps

  fit_both : (xs ys : List Step) → FitAll xs → FitAll ys → FitAll (xs ++ ys)
  fit_both [] ys h k = k
  fit_both (x ∷ xs) ys h k = (h.0, fit_both xs ys h.1 k)

  each_fits : (k n : ℕ) (f : ℕ → Step) → ((j : ℕ) → j < k + n → FitAll (f j ∷ [])) → FitAll (each_from k n f)
  each_fits k zero f h = tt
  each_fits k (suc n) f h = ((h k (omega arith)).0, each_fits (suc k) n f (λ j l. h j (omega (arith, l))))

  op_fits : (bytes i : ℕ) (op : Op) → Binds m devices half bytes op → FitAll (steps_of m i op)
  op_fits bytes i (Fill seg byte) h = (tt, tt)
  op_fits bytes i (Put page off values) h = (tt, tt)
  op_fits bytes i (Show seg) h = (tt, tt)
  op_fits bytes i (Seal n body tuples app rtag) h = absurd h
  op_fits bytes i (Write v n body app) h =
      each_fits 0 n (λ k. Writes (block_of i v k) app (body_of m.size body k))
      (λ j l. ((let w = h.0 in omega (arith, w, l), (h.1.1, part_length body m.size j n h.1.0 (omega (arith, l)))), tt))
  op_fits bytes i (Fetch v n body) h = each_fits 0 n (λ k. Reads (block_of i v k) OfBlock (body_of m.size body k)) (λ j l. (let w = h.0 in omega (arith, w, l), tt))
  op_fits bytes i (WritePi v n body tuples) h = absurd h
  op_fits bytes i (FetchPi v n body tuples) h = absurd h
  op_fits bytes i (Overwrite dev lba change) h = (h, tt)
  op_fits bytes i Wait h = tt

  ops_fit : (bytes i : ℕ) (list : List Op) → AllBind m devices half bytes list → FitAll (steps_from m i list)
  ops_fit bytes i [] h = tt
  ops_fit bytes i (op ∷ list) h = fit_both (steps_of m i op) (steps_from m (suc i) list) (op_fits bytes i op h.0) (ops_fit bytes (suc i) list h.1)

  pub script_fits : FitAll (steps_from m 1 ops)
  script_fits = ops_fit (length opening.bytes) 1 ops run.bind

  -- what is asked of the legs, of which a block is served on its good leg
  pub known_at : (u : ℕ) (l : u < half) → AreKnown m (on_leg (run.one_good u l).leg u (half + u)) (script_asks m half ops opening) opening
  known_at u l = record { escapes = run.no_escape; accounted = run.accounted; kept = run.kept; serves = (run.one_good u l).serves }

  pub fresh_at : (u : ℕ) → u < half → marks_of (replicate half fresh) u ≡ fresh
  fresh_at u l = get_or-replicate half u fresh fresh l

  -- what holds at first
  pub starts : (u : ℕ) (leg : Bool) → u < half → Has m' opening half (count_of ops) run.unshifted u leg (marks_of (replicate half fresh) u) [] []
  starts u leg l = subst (λ marks. Has m' opening half (count_of ops) run.unshifted u leg marks [] []) (sym (fresh_at u l)) (record { on0 = λ _. refl; on1 = λ _. run.equal u l; good = by leg; unhit = refl }) where
    by : (leg : Bool) → on_leg leg true true ≡ true
    by false = refl
    by true = refl

  bind_at : (bytes : ℕ) (before : List Op) (op : Op) (after : List Op) → AllBind m devices half bytes (before ++ (op ∷ after)) → Binds m devices half bytes op
  bind_at bytes [] op after h = h.0
  bind_at bytes (first ∷ before) op after h = bind_at bytes before op after h.1

  module _ (before after : List Op) (v n : ℕ) (body : List Seg) (is : ops ≡ before ++ (Fetch v n body ∷ after)) where
    abbrev i : ℕ
    i = suc (length before)

    abbrev op : Op
    op = Fetch v n body

    abbrev f : ℕ → Step
    f k = Reads (block_of (suc (length before)) v k) OfBlock (body_of m.size body k)

    abbrev first : List Step
    first = steps_from m 1 before

    -- the mirror after these steps
    abbrev at : List Step → Mirror
    at steps = plain (done m half (count_of ops)) steps (mirror_opened half opening)

    binds : Binds m devices half (length opening.bytes) (Fetch v n body)
    binds = bind_at (length opening.bytes) before (Fetch v n body) after (subst (AllBind m devices half (length opening.bytes)) is run.bind)

    op_steps : steps_of m (1 + length before) (Fetch v n body) ≡ each_from 0 n f
    op_steps = let e : 1 + length before ≡ suc (length before) = omega arith in ap (λ j. steps_of m j (Fetch v n body)) e

    split_at : (k : ℕ) → k < n → steps_from m 1 ops ≡ (steps_from m 1 before ++ each_from 0 k f) ++ (f k ∷ (each_from (suc k) (n - suc k) f ++ steps_from m (suc (1 + length before)) after))
    split_at k l =
        let rest = steps_from m (suc (1 + length before)) after in
        let later = each_from (suc k) (n - suc k) f in
        ap (steps_from m 1) is
        ∙ steps_split m 1 before (Fetch v n body) after
        ∙ ap (λ xs. steps_from m 1 before ++ (xs ++ rest)) (op_steps ∙ each_split 0 k n k f l (omega arith))
        ∙ ap (λ xs. steps_from m 1 before ++ xs) (append_assoc (each_from 0 k f) (f k ∷ later) rest)
        ∙ sym (append_assoc (steps_from m 1 before) (each_from 0 k f) (f k ∷ (later ++ rest)))

    abbrev GetsAt : (k : ℕ) → Mirror → Brought → Type 0
    GetsAt k now e = Gets m' opening half (count_of ops) run.unshifted devices run.lies run.cells run.long (asks m half (count_of ops) (f k) now) now.state (body_of m.size body k) e

    abbrev last : ℕ → List Step → Brought
    last u steps = last_of m half (count_of ops) steps opening u

    within : (k : ℕ) → k < n → v + k < half
    within k l = let w = binds.0 in omega (arith, w, l)

    gets_at : (k : ℕ) → k < n → GetsAt k (at (steps_from m 1 before ++ each_from 0 k f)) (last (v + k) (steps_from m 1 before ++ each_from 0 k f))
    gets_at k l =
        let good = run.one_good (v + k) (within k l) in
        let rest = each_from (suc k) (n - suc k) f ++ steps_from m (suc (1 + length before)) after in
        let e = split_at k l in
        read_along m' opening half (count_of ops) run.unshifted devices run.lies run.cells run.long good.leg (steps_from m 1 before ++ each_from 0 k f) rest (block_of (suc (length before)) v k) OfBlock (body_of m.size body k)
        (mirror_opened half opening) [] [] (within k l)
        (subst (AllSpare m half (count_of ops) good.leg (v + k)) e good.spares)
        (subst FitAll e script_fits)
        (subst (λ steps. AreKnown m (on_leg good.leg (v + k) (half + (v + k))) (all_asked m half (count_of ops) steps (mirror_opened half opening)) opening) e (known_at (v + k) (within k l)))
        (length-replicate half fresh)
        (begins m' devices run.lies opening run.cells (on_clean_volume (checked m') devices opening.blocks refl run.unshifted run.clean))
        (starts (v + k) good.leg (within k l))

    -- each block so far, and the next
    one_more : (k : ℕ) → at (steps_from m 1 before ++ each_from 0 (suc k) f) ≡ done m half (count_of ops) (f k) (at (steps_from m 1 before ++ each_from 0 k f))
    one_more k =
        let none : suc k - suc k ≡ 0 = omega arith in
        let e : each_from 0 (suc k) f ≡ each_from 0 k f ++ (f k ∷ []) = each_split 0 k (suc k) k f (omega arith) (omega arith) ∙ ap (λ r. each_from 0 k f ++ (f k ∷ each_from (suc k) r f)) none in
        ap (λ xs. at (steps_from m 1 before ++ xs)) e
        ∙ ap at (sym (append_assoc (steps_from m 1 before) (each_from 0 k f) (f k ∷ [])))
        ∙ plain_append (done m half (count_of ops)) (steps_from m 1 before ++ each_from 0 k f) (f k ∷ []) (mirror_opened half opening)

    none_bad : (j k r : ℕ) → k + r ≡ n → (now : Mirror) → now ≡ at (steps_from m 1 before ++ each_from 0 k f) →
        bad_from j (map (λ (a : ActAnswer). a.why) (plain_tells (done m half (count_of ops)) (answer m half (count_of ops)) (each_from k r f) now)) ≡ []
    none_bad j k zero e now q = refl
    none_bad j k (suc r) e now q =
        let why : (answer m half (count_of ops) (f k) now).why ≡ None = ap (λ t. (answer m half (count_of ops) (f k) t).why) q ∙ (gets_at k (omega (arith, e))).why in
        let next = done m half (count_of ops) (f k) now in
        ap (λ w. bad_from j (w ∷ map (λ (a : ActAnswer). a.why) (plain_tells (done m half (count_of ops)) (answer m half (count_of ops)) (each_from (suc k) r f) next))) why
        ∙ none_bad (suc j) (suc k) r (omega (arith, e)) next (ap (done m half (count_of ops) (f k)) q ∙ sym (one_more k))

    reply_whole : get_or (mirror_replies m half ops opening) (length before) Silent ≡ Whole
    reply_whole =
        ap (λ list. get_or (replies_from m half (count_of ops) 1 list (mirror_opened half opening)) (length before) Silent) is
        ∙ reply_at m half (count_of ops) 1 before (Fetch v n body) after (mirror_opened half opening)
        ∙ ap (λ xs. request_reply (plain_tells (done m half (count_of ops)) (answer m half (count_of ops)) xs (at (steps_from m 1 before)))) op_steps
        ∙ ap whole_or_bad (none_bad 0 0 n (omega arith) (at (steps_from m 1 before)) (ap at (sym (append-nil (steps_from m 1 before)))))

    abbrev to : ℕ → List ℕ
    to k = body_of m.size body k

    after_op : (k : ℕ) → k < n → at (steps_from m 1 (before ++ (Fetch v n body ∷ []))) ≡ plain (done m half (count_of ops)) (each_from (suc k) (n - suc k) f) (done m half (count_of ops) (f k) (at (steps_from m 1 before ++ each_from 0 k f)))
    after_op k l =
        let later = each_from (suc k) (n - suc k) f in
        ap at (steps_split m 1 before (Fetch v n body) []
        ∙ ap (λ xs. steps_from m 1 before ++ xs) (append-nil (steps_of m (1 + length before) (Fetch v n body)) ∙ op_steps ∙ each_split 0 k n k f l (omega arith))
        ∙ sym (append_assoc (steps_from m 1 before) (each_from 0 k f) (f k ∷ later)))
        ∙ plain_append (done m half (count_of ops)) (steps_from m 1 before ++ each_from 0 k f) (f k ∷ later) (mirror_opened half opening)

    last_then : (k : ℕ) → last (v + k) (steps_from m 1 before ++ each_from 0 k f) ≡ last (v + k) (steps_from m 1 before)
    last_then k =
        ap (λ past. last_accepted m opening (record { op = 0; k = 0; virt = v + k }) past)
        (past_append m half (count_of ops) (steps_from m 1 before) (each_from 0 k f) (mirror_opened half opening) []
        ∙ reads_past m half (count_of ops) (suc (length before)) v body 0 k (at (steps_from m 1 before)) (mirror_past m half (count_of ops) (steps_from m 1 before) (mirror_opened half opening) []))

    data_read : (k : ℕ) → k < n → gather 0 (to k) (at (steps_from m 1 (before ++ (Fetch v n body ∷ [])))).state.bytes ≡ (last (v + k) (steps_from m 1 before)).body
    data_read k l =
        let now = at (steps_from m 1 before ++ each_from 0 k f) in
        let g = gets_at k l in
        let long = part_length body m.size k n binds.1.0 l in
        let once = distinct (cells_of body) binds.1.1.once in
        let pages = g.same ∙ all_pages m half (count_of ops) (steps_from m 1 before ++ each_from 0 k f) (mirror_opened half opening) in
        ap (λ (s : Mirror). gather 0 (to k) s.state.bytes) (after_op k l)
        ∙ later_reads m half (count_of ops) (suc (length before)) v body (to k) (suc k) (n - suc k) (done m half (count_of ops) (f k) now) (λ j h. blocks_apart m.size body [] OfBlock k j once (omega (arith, h)))
        ∙ ap (gather 0 (to k)) g.lands
        ∙ landed (to k) g.frame g.before (block_distinct m.size body [] OfBlock k once)
        (subst (λ p. AllBelow p (to k)) (sym pages) (block_below m.size body [] OfBlock (length opening.bytes) k (below (length opening.bytes) (cells_of body) binds.1.1.below)))
        (let z = g.size in omega (arith, long, z))
        ∙ ap (λ size. take size g.frame) long
        ∙ g.body
        ∙ ap (λ (e : Brought). e.body) (last_then k)

    pub reads_last : ReadsLast m half ops before v n body opening
    reads_last = record { reply = reply_whole; data_is = data_read }

pub mirror_reads_last : (m : Setting) (devices : List DeviceInfo) (half : ℕ) (before after : List Op) (v n : ℕ) (body : List Seg) (opening : State) → IsMirrorRun m devices half (before ++ (Fetch v n body ∷ after)) opening →
    ReadsLast m half (before ++ (Fetch v n body ∷ after)) before v n body opening
mirror_reads_last m devices half before after v n body opening run =
    let e = checked_form m run.checked in
    let ops = before ++ (Fetch v n body ∷ after) in
    subst (λ x. ReadsLast x half ops before v n body opening) (sym e) (reads_last m devices half ops opening (subst (λ x. IsMirrorRun x devices half ops opening) e run) before after v n body refl)
