-- From blocks to ops: what a reply lists, and what a read leaves in the pages.
use Rattle.std.proofs.Common.{◌≡◌, ◌<◌, ◌≤◌, ℕ, zero, suc, ◌+◌, ◌-◌, ◌*◌, ◌%◌, ◌^◌, Bool, true, false, ◌&&◌, List, [], ◌∷◌, ◌++◌, length, map, get_or, take, Option, Some, None, refl, sym, ap, subst, ◌∙◌, arith}
use Rattle.std.proofs.lemmas.Bool.{and_parts, false≢true}
use Rattle.std.proofs.lemmas.List.{append_assoc, append-nil, take-take, take_all}
use Rattle.page_pool.specs.declared.segs.Seg.{Seg}
use Rattle.page_pool.specs.Cells.{gather, scatter}
use Rattle.page_pool.specs.Places.{total}
use Rattle.integrity_payload.specs.declared.payload.Owner.{Owner}
use Rattle.integrity_payload.specs.declared.payload.Owner.TheVariants.{Block as OfBlock, App as OfApp}
use Rattle.walk_laws.specs.Passed.{Why, Op, Fetch, FetchPi, Fill, Overwrite, Put, Seal, Show, Wait, Write, WritePi, Silent, data_of, tuple_of as tuple_in_frame, State, act, tell, ActAnswer, fetched_cell, plain, plain_tells, DeviceInfo}
use Rattle.range_gate.specs.Cells.{cells_of}
use Rattle.walk_laws.proofs.Passed.{AllBelow, Distinct, below, distinct}
use Rattle.walk_laws.specs.Detectable.{accounted, detectable, found, shows_in, step_shows}
use Rattle.walk_laws.specs.FirstLayer.{Layer, first_layer, is_at_home, is_served, last_counted}
use Rattle.walk_laws.specs.Past.{Event, events_of, past_after, steps_from}
use Rattle.walk_laws.specs.ScriptWalk.{act_of, acts_of, replies_from, reply_of, request_reply, script_replies, script_walk, walk_from}
use Rattle.walk_laws.specs.Settings.{Block, Setting, block_of, route}
use Rattle.walk_laws.specs.Steps.{Reads, Seals, Step, Writes, WritesPi, body_of, each_from, frame_at, steps_of, tuple_of}
use Rattle.walk_laws.specs.UnderMap.{NoEscape, NoneEscapes}
use Rattle.walk_laws.proofs.CalmRuns.{frame_length, part_length}
use Rattle.walk_laws.specs.ReadsAs.{ReadsAs, ReadsRightly, ReadsStored, ReadsWhereServed, landing, listed_in, read_op, takes_tuples}
use Rattle.run_laws.specs.ShownRun.{AllBind, AreCleanWhereRead, Binds, HasCells, IsAccountedRun, IsChecked, IsShownRun, LiesOn}
use Rattle.run_laws.proofs.Placing.{all_accounted, all_placed, ops_placed}
use Rattle.run_laws.proofs.Counted.{AllFit, AllPlaced, EndsAs, EndsWhereServed, Fits, reads_after}
use Rattle.run_laws.proofs.Layers.{checked}
use Rattle.run_laws.proofs.Parts.{block_below, block_distinct, block_fits, blocks_apart, landed, lists_of}
use Rattle.walk_laws.proofs.InSteps.{acts_stepped, each_length, each_split, is_listed, later_blocks, read_reply, read_steps, same_pages, stepped, stepped_append, steps_split, tells_at}

module _ (m : Setting) where
  -- the cells after these steps
  abbrev steps_walk : List Step → State → State
  steps_walk steps s = stepped (act_of m) steps s

  reply_at : (i : ℕ) (before : List Op) (op : Op) (after : List Op) (s : State) →
      get_or (replies_from m i (before ++ (op ∷ after)) s) (length before) Silent ≡ reply_of (m.fails (i + length before)) op (plain_tells act tell (acts_of m (i + length before) op) (walk_from m i before s))
  reply_at i [] op after s = let e : i ≡ i + 0 = omega arith in ap (λ i. reply_of (m.fails i) op (plain_tells act tell (acts_of m i op) s)) e
  reply_at i (first ∷ before) op after s =
      let e : suc i + length before ≡ i + suc (length before) = omega arith in
      let now = plain act (acts_of m i first) s in
      reply_at (suc i) before op after now
      ∙ ap (λ j. reply_of (m.fails j) op (plain_tells act tell (acts_of m j op) (walk_from m (suc i) before now))) e

  pub ops_walk : (i : ℕ) (ops : List Op) (s : State) → walk_from m i ops s ≡ steps_walk (steps_from m i ops) s
  ops_walk i [] s = refl
  ops_walk i (op ∷ ops) s =
      ap (walk_from m (suc i) ops) (acts_stepped (act_of m) (steps_of m i op) s)
      ∙ ops_walk (suc i) ops (steps_walk (steps_of m i op) s)
      ∙ sym (stepped_append (act_of m) (steps_of m i op) (steps_from m (suc i) ops) s)

  past_append : (xs ys : List Step) (s : State) (past : List Event) → past_after m (xs ++ ys) s past ≡ past_after m ys (steps_walk xs s) (past_after m xs s past)
  past_append [] ys s past = refl
  past_append (x ∷ xs) ys s past = past_append xs ys (act (act_of m x) s) (events_of m x s ++ past)

  escapes_append : (xs ys : List Step) (s : State) → NoneEscapes m xs s → NoneEscapes m ys (steps_walk xs s) → NoneEscapes m (xs ++ ys) s
  escapes_append [] ys s h k = k
  escapes_append (x ∷ xs) ys s h k = (h.0, escapes_append xs ys (act (act_of m x) s) h.1 k)

  pub none_escapes : (i : ℕ) (ops : List Op) (s : State) → NoEscape m i ops s → NoneEscapes m (steps_from m i ops) s
  none_escapes i [] s h = tt
  none_escapes i (op ∷ ops) s h =
      escapes_append (steps_of m i op) (steps_from m (suc i) ops) s h.0
      (subst (NoneEscapes m (steps_from m (suc i) ops)) (acts_stepped (act_of m) (steps_of m i op) s) (none_escapes (suc i) ops (plain act (acts_of m i op) s) h.1))

-- the blocks of a read
module _ (m : Setting) (i v : ℕ) (owner : Owner) (body tuples : List Seg) where
  abbrev pub step_at : ℕ → Step
  step_at k = Reads (block_of i v k) owner (landing m.size owner body tuples k)

  read_past : (j n : ℕ) (s : State) (past : List Event) → past_after m (each_from j n step_at) s past ≡ past
  read_past j zero s past = refl
  read_past j (suc n) s past = read_past (suc j) n (act (act_of m (step_at j)) s) past

  read_blocks : (j n : ℕ) (s : State) → (steps_walk m (each_from j n step_at) s).blocks ≡ s.blocks
  read_blocks j zero s = refl
  read_blocks j (suc n) s = read_blocks (suc j) n (act (act_of m (step_at j)) s)

-- what binding gives each step
module _ (m : Setting) (devices : List DeviceInfo) where
  abbrev FitsIn : Step → Type 0
  FitsIn step = Fits m devices step

  abbrev AllFitIn : List Step → Type 0
  AllFitIn steps = AllFit m devices steps

  each_fits : (k n : ℕ) (f : ℕ → Step) → ((j : ℕ) → j < k + n → FitsIn (f j)) → AllFitIn (each_from k n f)
  each_fits k zero f h = tt
  each_fits k (suc n) f h = (h k (omega arith), each_fits (suc k) n f (λ j l. h j (omega (arith, l))))

  fit_both : (xs ys : List Step) → AllFitIn xs → AllFitIn ys → AllFitIn (xs ++ ys)
  fit_both [] ys h k = k
  fit_both (x ∷ xs) ys h k = (h.0, fit_both xs ys h.1 k)

  op_fits : (bytes i : ℕ) (op : Op) → Binds m devices bytes i op → AllFitIn (steps_of m i op)
  op_fits bytes i (Fill seg byte) h = (tt, tt)
  op_fits bytes i (Put page off values) h = (tt, tt)
  op_fits bytes i (Show seg) h = (tt, tt)
  op_fits bytes i (Seal n body tuples app rtag) h = each_fits 0 n (λ k. Seals (body_of m.size body k) (tuple_of tuples k) app ((rtag + k) % 2 ^ 32)) (λ j l. tt)
  op_fits bytes i (Write v n body app) h =
      each_fits 0 n (λ k. Writes (block_of i v k) app (body_of m.size body k)) (λ j l. (
        (let w = h.0.within in omega (arith, w, l)),
        (h.1.1 j (omega (arith, l)), (h.1.0, part_length body m.size j n h.0.bytes_are (omega (arith, l)))),
      ))
  op_fits bytes i (Fetch v n body) h =
      each_fits 0 n (λ k. Reads (block_of i v k) OfBlock (body_of m.size body k)) (λ j l. (
        (let w = h.0.within in omega (arith, w, l)),
        (h.1.1.0 j (omega (arith, l)), h.1.1.1 j (omega (arith, l))),
      ))
  op_fits bytes i (WritePi v n body tuples) h =
      each_fits 0 n (λ k. WritesPi (block_of i v k) (frame_at m.size body tuples k)) (λ j l. (
        (let w = h.0.within in omega (arith, w, l)),
        (h.1.1 j (omega (arith, l)), frame_length m.size body tuples j n h.0.bytes_are h.1.0 (omega (arith, l))),
      ))
  op_fits bytes i (FetchPi v n body tuples) h =
      each_fits 0 n (λ k. Reads (block_of i v k) OfApp (frame_at m.size body tuples k)) (λ j l. (
        (let w = h.0.within in omega (arith, w, l)),
        (h.1.1.1.0 j (omega (arith, l)), h.1.1.1.1 j (omega (arith, l))),
      ))
  op_fits bytes i (Overwrite dev lba change) h = (h, tt)
  op_fits bytes i Wait h = tt

  ops_fit : (bytes i : ℕ) (ops : List Op) → AllBind m devices bytes i ops → AllFitIn (steps_from m i ops)
  ops_fit bytes i [] h = tt
  ops_fit bytes i (op ∷ ops) h = fit_both (steps_of m i op) (steps_from m (suc i) ops) (op_fits bytes i op h.0) (ops_fit bytes (suc i) ops h.1)

  -- the op at a place binds
  bind_at : (bytes i : ℕ) (before : List Op) (op : Op) (after : List Op) → AllBind m devices bytes i (before ++ (op ∷ after)) → Binds m devices bytes (i + length before) op
  bind_at bytes i [] op after h = let e : i ≡ i + 0 = omega arith in subst (λ i. Binds m devices bytes i op) e h.0
  bind_at bytes i (first ∷ before) op after h =
      let e : suc i + length before ≡ i + suc (length before) = omega arith in subst (λ i. Binds m devices bytes i op) e (bind_at bytes (suc i) before op after h.1)

  -- a read's lists
  record Lands (bytes : ℕ) (owner : Owner) (n : ℕ) (body tuples : List Seg) : Type 0 where
    long : total body ≡ n * m.size
    once : Distinct (lists_of owner body tuples)
    below_end : AllBelow bytes (lists_of owner body tuples)
    size : (k : ℕ) → k < n → m.size ≤ length (landing m.size owner body tuples k)
    tuples_long : takes_tuples owner ≡ true → total tuples ≡ n * 8

  lands : (bytes i : ℕ) (owner : Owner) (v n : ℕ) (body tuples : List Seg) → Binds m devices bytes i (read_op owner v n body tuples) → Lands bytes owner n body tuples
  lands bytes i OfBlock v n body tuples h = record {
    long = h.0.bytes_are;
    once = distinct (cells_of body) h.1.0.once;
    below_end = below bytes (cells_of body) h.1.0.below;
    size = λ k l. let p = part_length body m.size k n h.0.bytes_are l in omega (arith, p);
    tuples_long = λ t. absurd (false≢true t);
  }
  lands bytes i OfApp v n body tuples h = record {
    long = h.0.bytes_are;
    once = distinct (cells_of body ++ cells_of tuples) h.1.1.0.once;
    below_end = below bytes (cells_of body ++ cells_of tuples) h.1.1.0.below;
    size = λ k l. let p = frame_length m.size body tuples k n h.0.bytes_are h.1.0 l in omega (arith, p);
    tuples_long = λ t. h.1.0;
  }

module _ (m' : Setting) (devices : List DeviceInfo) (before after : List Op) (owner : Owner) (v n k : ℕ) (body tuples : List Seg) (opening : State) (l : k < n)
    (counts : Block → Bool) (lies : LiesOn (checked m') devices) (cells : HasCells (checked m') devices opening.blocks) (bind : AllBind (checked m') devices (length opening.bytes) 1 (before ++ (read_op owner v n body tuples ∷ after))) where
  abbrev m : Setting
  m = checked m'

  abbrev i : ℕ
  i = suc (length before)

  abbrev op : Op
  op = read_op owner v n body tuples

  abbrev b : Block
  b = block_of i v k

  abbrev f : ℕ → Step
  f k = Reads (block_of i v k) owner (landing m.size owner body tuples k)

  abbrev to : List ℕ
  to = landing m.size owner body tuples k

  -- the cells and what is past, before the op and before its block k
  abbrev s : State
  s = script_walk m before opening

  abbrev past : List Event
  past = past_after m (steps_from m 1 before) opening []

  abbrev here : State
  here = steps_walk m (each_from 0 k f) s

  abbrev earlier : List Step
  earlier = steps_from m 1 before ++ each_from 0 k f

  abbrev later : List Step
  later = each_from (suc k) (n - suc k) f

  op_steps : steps_of m (1 + length before) op ≡ each_from 0 k f ++ (f k ∷ later)
  op_steps = let e : 1 + length before ≡ i = omega arith in ap (λ j. steps_of m j op) e ∙ read_steps m i v n owner body tuples ∙ each_split 0 k n k f l (omega arith)

  at_block : steps_from m 1 (before ++ (op ∷ after)) ≡ earlier ++ (f k ∷ (later ++ steps_from m (suc (1 + length before)) after))
  at_block =
      let rest = steps_from m (suc (1 + length before)) after in
      steps_split m 1 before op after
      ∙ ap (λ xs. steps_from m 1 before ++ (xs ++ rest)) op_steps
      ∙ ap (λ xs. steps_from m 1 before ++ xs) (append_assoc (each_from 0 k f) (f k ∷ later) rest)
      ∙ sym (append_assoc (steps_from m 1 before) (each_from 0 k f) (f k ∷ (later ++ rest)))

  walked : steps_walk m earlier opening ≡ here
  walked = stepped_append (act_of m) (steps_from m 1 before) (each_from 0 k f) opening ∙ ap (steps_walk m (each_from 0 k f)) (sym (ops_walk m 1 before opening))

  happened : past_after m earlier opening [] ≡ past
  happened = past_append m (steps_from m 1 before) (each_from 0 k f) opening [] ∙ read_past m i v owner body tuples 0 k (steps_walk m (steps_from m 1 before) opening) past

  whole_op : script_walk m (before ++ (op ∷ [])) opening ≡ steps_walk m (each_from 0 k f ++ (f k ∷ later)) s
  whole_op =
      ops_walk m 1 (before ++ (op ∷ [])) opening
      ∙ ap (λ xs. steps_walk m xs opening) (steps_split m 1 before op [])
      ∙ stepped_append (act_of m) (steps_from m 1 before) (steps_of m (1 + length before) op ++ []) opening
      ∙ ap (λ xs. steps_walk m xs (steps_walk m (steps_from m 1 before) opening)) (append-nil (steps_of m (1 + length before) op) ∙ op_steps)
      ∙ ap (steps_walk m (each_from 0 k f ++ (f k ∷ later))) (sym (ops_walk m 1 before opening))

  same_blocks : here.blocks ≡ s.blocks
  same_blocks = read_blocks m i v owner body tuples 0 k s

  why_is : listed_in (get_or (script_replies m (before ++ (op ∷ after)) opening) (length before) Silent) k ≡ (tell (act_of m (f k)) here).why
  why_is =
      ap (λ r. listed_in r k) (reply_at m 1 before op after opening ∙ read_reply (m.fails (1 + length before)) v n owner body tuples (plain_tells act tell (acts_of m (1 + length before) op) s)
      ∙ ap (λ steps. request_reply (plain_tells act tell (map (act_of m) steps) s)) op_steps)
      ∙ is_listed (plain_tells act tell (map (act_of m) (each_from 0 k f ++ (f k ∷ later))) s) k
      ∙ ap (λ (a : ActAnswer). a.why) (tells_at (act_of m) (each_from 0 k f) (f k) later s k (each_length 0 k f))

  read_lands : Lands m devices (length opening.bytes) owner n body tuples
  read_lands = lands m devices (length opening.bytes) (1 + length before) owner v n body tuples (bind_at m devices (length opening.bytes) 1 before op after bind)

  -- what stands in the pages where a frame landed
  arrived : (frame : List ℕ) → length frame ≡ m.size + 8 → (act (act_of m (f k)) here).bytes ≡ scatter to frame here.bytes → gather 0 to (script_walk m (before ++ (op ∷ [])) opening).bytes ≡ take (length to) frame
  arrived frame size there =
      let pages = same_pages (act_of m) (each_from 0 k f) s ∙ ap (λ (c : State). length c.bytes) (ops_walk m 1 before opening) ∙ same_pages (act_of m) (steps_from m 1 before) opening in
      ap (λ (c : State). gather 0 to c.bytes) (whole_op ∙ stepped_append (act_of m) (each_from 0 k f) (f k ∷ later) s)
      ∙ later_blocks (act_of m) f (λ j. landing m.size owner body tuples j) (λ j. refl) to (suc k) (n - suc k) (act (act_of m (f k)) here) (λ j g _. blocks_apart m.size body tuples owner k j read_lands.once (omega (arith, g)))
      ∙ ap (gather 0 to) there
      ∙ landed to frame here.bytes (block_distinct m.size body tuples owner k read_lands.once)
      (subst (λ p. AllBelow p to) (sym pages) (block_below m.size body tuples owner (length opening.bytes) k read_lands.below_end))
      (let t = block_fits m.size owner body tuples k in omega (arith, t, size))

  abbrev ops : List Op
  ops = before ++ (op ∷ after)

  -- what each block of a write has, and what is asked of the run
  abbrev pub Lasts : List Step → Type 0
  Lasts steps = AllPlaced m' devices lies opening cells counts steps

  reads_so : Lasts (steps_from m 1 ops) → NoEscape m 1 ops opening → accounted m (steps_from m 1 ops) opening ≡ true → AreCleanWhereRead m devices opening.blocks →
      EndsWhereServed m' devices lies opening cells counts (is_served m b) b owner to past here
  reads_so placed no_escape all clean =
      let rest = later ++ steps_from m (suc (1 + length before)) after in
      let known = reads_after m' devices lies opening cells counts earlier rest b owner to
      (subst (AllFit m devices) at_block (ops_fit m devices (length opening.bytes) 1 ops bind))
      (subst Lasts at_block placed)
      (subst (λ steps. NoneEscapes m steps opening) at_block (none_escapes m 1 ops opening no_escape))
      (subst (λ steps. accounted m steps opening ≡ true) at_block all)
      clean in
      subst (λ c. EndsWhereServed m' devices lies opening cells counts (is_served m b) b owner to past c) walked
      (subst (λ p. EndsWhereServed m' devices lies opening cells counts (is_served m b) b owner to p (steps_walk m earlier opening)) happened known)

  abbrev listed : Option Why
  listed = listed_in (get_or (script_replies m ops opening) (length before) Silent) k

  abbrev landed_there : List ℕ
  landed_there = gather 0 to (script_walk m (before ++ (op ∷ [])) opening).bytes

  abbrev Result : Option Layer → Type 0
  Result o = ReadsAs m b owner o (last_counted counts m opening b past) s.blocks listed landed_there

  convert : (o : Option Layer) → EndsAs m b owner to o (last_counted counts m opening b past) here → Result o
  convert (Some layer) r = record {
    check = r.check;
    is_found = ap (λ blocks. found m b (get_or blocks (fetched_cell m.site (route m b)) []) layer) (sym same_blocks) ∙ r.is_found;
    is_listed = why_is ∙ r.listed;
  }
  convert None r =
      let e = arrived r.frame r.size r.lands in
      let enough = read_lands.size k l in
      record {
        is_listed = why_is ∙ r.listed;
        body = ap (data_of m.size) e ∙ take-take m.size (length to) r.frame enough ∙ r.body;
        tuple = λ takes. ap (tuple_in_frame m.size) (e ∙ take_all (length to) r.frame (let t = takes_all owner takes read_lands in let z = r.size in omega (arith, t, z))) ∙ r.tuple;
      }
    where
      takes_all : (owner : Owner) → takes_tuples owner ≡ true → Lands m devices (length opening.bytes) owner n body tuples → m.size + 8 ≤ length (landing m.size owner body tuples k)
      takes_all OfBlock h lands = absurd (false≢true h)
      takes_all OfApp h lands = let p = frame_length m.size body tuples k n lands.long (lands.tuples_long refl) l in omega (arith, p)

  pub served_reads : (served : Bool) → EndsWhereServed m' devices lies opening cells counts served b owner to past here → ReadsWhereServed served m b owner (first_layer m past b) (last_counted counts m opening b past) s.blocks listed landed_there
  served_reads true r = convert (first_layer m past b) r
  served_reads false r = why_is ∙ r

  -- where each fault can be shown, each read is served
  step_is : detectable m (steps_from m 1 ops) opening ≡ true → is_served m b ≡ true
  step_is shown = at_step earlier opening (subst (λ steps. detectable m steps opening ≡ true) at_block shown) where
    at_step : (earlier : List Step) (s : State) → detectable m (earlier ++ (f k ∷ (later ++ steps_from m (suc (1 + length before)) after))) s ≡ true → is_served m b ≡ true
    at_step [] s h =
        (and_parts (is_served m b) (shows_in m b (get_or s.blocks (fetched_cell m.site (route m b)) []))
        (and_parts (step_shows m (f k) s) (detectable m (later ++ steps_from m (suc (1 + length before)) after) (act (act_of m (f k)) s)) h).0).0
    at_step (step ∷ steps) s h =
        at_step steps (act (act_of m step) s) (and_parts (step_shows m step s) (detectable m (steps ++ (f k ∷ (later ++ steps_from m (suc (1 + length before)) after))) (act (act_of m step) s)) h).1

-- a setting in which each fault can be shown is its own form
pub checked_form : (m : Setting) → IsChecked m → m ≡ checked m
checked_form m c = λ i. record m { mode = record m.mode { dix = c.dix i; dif = c.dif i; protect = c.protect i }; ty = c.ty i; site = record m.site { device = c.device i } }

reads_rightly : (m' : Setting) (devices : List DeviceInfo) (before after : List Op) (owner : Owner) (v n k : ℕ) (body tuples : List Seg) (opening : State) → k < n →
    IsShownRun (checked m') devices (before ++ (read_op owner v n body tuples ∷ after)) opening → ReadsRightly (checked m') before owner v n body tuples after opening k
reads_rightly m' devices before after owner v n k body tuples opening l run =
    let m = checked m' in
    let b = block_of (suc (length before)) v k in
    let steps = steps_from m 1 (before ++ (read_op owner v n body tuples ∷ after)) in
    let ends = reads_so m' devices before after owner v n k body tuples opening l (λ a. true) run.lies run.cells run.bind
    (all_placed m' devices run.lies opening run.cells steps opening run.shown) run.no_escape (all_accounted m' devices run.lies opening run.cells steps opening run.shown) run.clean in
    let e = step_is m' devices before after owner v n k body tuples opening l (λ a. true) run.lies run.cells run.bind run.shown in
    served_reads m' devices before after owner v n k body tuples opening l (λ a. true) run.lies run.cells run.bind true
    (subst (λ t. EndsWhereServed m' devices run.lies opening run.cells (λ a. true) t b owner (landing m.size owner body tuples k) (past_after m (steps_from m 1 before) opening [])
    (steps_walk m (each_from 0 k (λ k. Reads (block_of (suc (length before)) v k) owner (landing m.size owner body tuples k))) (script_walk m before opening))) e ends)

pub last_write_or_first_layer : (m : Setting) (devices : List DeviceInfo) (before after : List Op) (owner : Owner) (v n k : ℕ) (body tuples : List Seg) (opening : State) →
    IsShownRun m devices (before ++ (read_op owner v n body tuples ∷ after)) opening → k < n → ReadsRightly m before owner v n body tuples after opening k
last_write_or_first_layer m devices before after owner v n k body tuples opening run l =
    let e = checked_form m run.checked in
    subst (λ x. ReadsRightly x before owner v n body tuples after opening k) (sym e)
    (reads_rightly m devices before after owner v n k body tuples opening l (subst (λ x. IsShownRun x devices (before ++ (read_op owner v n body tuples ∷ after)) opening) e run))

reads_stored : (m' : Setting) (devices : List DeviceInfo) (before after : List Op) (owner : Owner) (v n k : ℕ) (body tuples : List Seg) (opening : State) → k < n →
    IsAccountedRun (checked m') devices (before ++ (read_op owner v n body tuples ∷ after)) opening → ReadsStored (checked m') before owner v n body tuples after opening k
reads_stored m' devices before after owner v n k body tuples opening l run =
    let m = checked m' in
    let b = block_of (suc (length before)) v k in
    served_reads m' devices before after owner v n k body tuples opening l (is_at_home m) run.lies run.cells run.bind (is_served m b)
    (reads_so m' devices before after owner v n k body tuples opening l (is_at_home m) run.lies run.cells run.bind
    (ops_placed m' devices run.lies opening run.cells 1 (before ++ (read_op owner v n body tuples ∷ after)) run.land) run.no_escape run.accounted run.clean)

pub last_stored_or_first_layer : (m : Setting) (devices : List DeviceInfo) (before after : List Op) (owner : Owner) (v n k : ℕ) (body tuples : List Seg) (opening : State) →
    IsAccountedRun m devices (before ++ (read_op owner v n body tuples ∷ after)) opening → k < n → ReadsStored m before owner v n body tuples after opening k
last_stored_or_first_layer m devices before after owner v n k body tuples opening run l =
    let e = checked_form m run.checked in
    subst (λ x. ReadsStored x before owner v n body tuples after opening k) (sym e)
    (reads_stored m devices before after owner v n k body tuples opening l (subst (λ x. IsAccountedRun x devices (before ++ (read_op owner v n body tuples ∷ after)) opening) e run))
