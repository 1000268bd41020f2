-- From blocks whose store calls fail to ops: what a reply lists, and what a read leaves in the pages.
use Rattle.std.proofs.Common.{◌≡◌, ◌<◌, ◌≤◌, ℕ, zero, suc, ◌+◌, ◌-◌, Bool, true, false, if◌then◌else◌, List, [], ◌∷◌, ◌++◌, length, map, get_or, take, drop, Option, Some, None, refl, sym, ap, subst, ◌∙◌, inl, inr, arith}
use Rattle.std.proofs.lemmas.Bool.{false≢true}
use Rattle.std.proofs.lemmas.List.{append_assoc, append-nil, length-map, map-append, take-take, take_all}
use Rattle.page_pool.specs.declared.segs.Seg.{Seg}
use Rattle.page_pool.specs.Cells.{gather, scatter}
use Rattle.range_gate.specs.Cells.{cells_of}
use Rattle.integrity_payload.specs.declared.payload.Owner.{Owner}
use Rattle.integrity_payload.specs.declared.payload.Owner.TheVariants.{Block as OfBlock, App as OfApp}
use Rattle.walk_laws.specs.Passed.{Op, Silent, data_of, tuple_of, Act, State, act, tell, ActAnswer, plain_tells, Why}
use Rattle.walk_laws.proofs.Passed.{AllBelow, Distinct, below, distinct}
use Rattle.walk_laws.specs.FirstLayer.{last_accepted}
use Rattle.walk_laws.specs.Past.{Brought, Event, steps_from}
use Rattle.walk_laws.specs.ScriptWalk.{act_of, acts_of, replies_by, reply_of, request_reply}
use Rattle.walk_laws.specs.Settings.{Block, Setting, block_of}
use Rattle.walk_laws.specs.Steps.{Reads, Step, each_from, steps_of}
use Rattle.walk_laws.proofs.AnyOrder.{first_tells, other_tells}
use Rattle.walk_laws.proofs.CalmRuns.{frame_length, part_length}
use Rattle.run_laws.specs.FallingReads.{HasRoom, IsReadAs, IsReadOrFails, falling_replies}
use Rattle.walk_laws.specs.ReadsAs.{landing, listed_in, read_op, takes_tuples}
use Rattle.run_laws.specs.StoreFaults.{IsFallingRun, IsServed, LandsAs, events_when, falling_past, may_fall, or_fallen}
use Rattle.run_laws.proofs.Falling.{each_is_served}
use Rattle.walk_laws.proofs.InSteps.{acts_stepped, block_says, each_split, later_blocks, read_reply, read_steps, same_pages, stepped, stepped_append, steps_split}
use Rattle.run_laws.proofs.Parts.{block_below, block_distinct, blocks_apart, landed, lists_of}

module _ (m : Setting) (falls : Block → Option (List ℕ)) where
  abbrev a : Step → Act ActAnswer
  a = may_fall m falls

  reply_at : (i : ℕ) (before : List Op) (op : Op) (after : List Op) (s : State) →
      get_or (falling_replies m falls i (before ++ (op ∷ after)) s) (length before) Silent
      ≡ reply_of (m.fails (i + length before)) op (plain_tells act tell (map a (steps_of m (i + length before) op)) (stepped a (steps_from m i before) s))
  reply_at i [] op after s = let e : i ≡ i + 0 = omega arith in ap (λ i. reply_of (m.fails i) op (plain_tells act tell (map a (steps_of m i op)) s)) e
  reply_at i (first ∷ before) op after s =
      let e : suc i + length before ≡ i + suc (length before) = omega arith in
      let now = stepped a (steps_of m i first) s in
      reply_at (suc i) before op after now
      ∙ ap (λ j. reply_of (m.fails j) op (plain_tells act tell (map a (steps_of m j op)) (stepped a (steps_from m (suc i) before) now))) e
      ∙ ap (λ c. reply_of (m.fails (i + suc (length before))) op (plain_tells act tell (map a (steps_of m (i + suc (length before)) op)) c)) (sym (stepped_append a (steps_of m i first) (steps_from m (suc i) before) s))

  past_append : (xs ys : List Step) (s : State) (past : List Event) → falling_past m falls (xs ++ ys) s past ≡ falling_past m falls ys (stepped a xs s) (falling_past m falls xs s past)
  past_append [] ys s past = refl
  past_append (x ∷ xs) ys s past = past_append xs ys (act (a x) s) (events_when m (tell (a x) s).why x s ++ past)

  -- the replies that the answers of all blocks make
  pub replies_are : (i : ℕ) (ops : List Op) (s : State) → replies_by m i ops (plain_tells act tell (map a (steps_from m i ops)) s) ≡ falling_replies m falls i ops s
  replies_are i [] s = refl
  replies_are i (op ∷ ops) s =
      let mine = map a (steps_of m i op) in
      let others = map a (steps_from m (suc i) ops) in
      let count : length (acts_of m i op) ≡ length mine = length-map (steps_of m i op) (act_of m) ∙ sym (length-map (steps_of m i op) a) in
      let first = ap (λ n. take n (plain_tells act tell (mine ++ others) s)) count ∙ first_tells act tell mine others s in
      let rest = ap (λ n. drop n (plain_tells act tell (mine ++ others) s)) count ∙ other_tells act tell mine others s in
      ap (λ acts. replies_by m i (op ∷ ops) (plain_tells act tell acts s)) (map-append a (steps_of m i op) (steps_from m (suc i) ops))
      ∙ ap (λ xs. reply_of (m.fails i) op xs ∷ replies_by m (suc i) ops (drop (length (acts_of m i op)) (plain_tells act tell (mine ++ others) s))) first
      ∙ ap (λ rs. reply_of (m.fails i) op (plain_tells act tell mine s) ∷ rs)
      (ap (replies_by m (suc i) ops) rest ∙ ap (λ c. replies_by m (suc i) ops (plain_tells act tell others c)) (acts_stepped a (steps_of m i op) s) ∙ replies_are (suc i) ops (stepped a (steps_of m i op) s))

-- the blocks of a read
module _ (m : Setting) (falls : Block → Option (List ℕ)) (i v : ℕ) (owner : Owner) (body tuples : List Seg) where
  abbrev step_at : ℕ → Step
  step_at k = Reads (block_of i v k) owner (landing m.size owner body tuples k)

  read_past : (j n : ℕ) (s : State) (past : List Event) → falling_past m falls (each_from j n step_at) s past ≡ past
  read_past j zero s past = refl
  read_past j (suc n) s past = read_past (suc j) n (act (may_fall m falls (step_at j)) s) past

  lands_there : (j : ℕ) → (may_fall m falls (step_at j)).bytes.writes ≡ landing m.size owner body tuples j
  lands_there j = by (falls (block_of i v j)) where
    by : (o : Option (List ℕ)) → (or_fallen m (step_at j) o).bytes.writes ≡ landing m.size owner body tuples j
    by None = refl
    by (Some left) = refl

host_most : (c : Bool) (n : ℕ) → (if c then n + 8 else n) ≤ n + 8
host_most true n = omega arith
host_most false n = omega arith

host_least : (c : Bool) (n : ℕ) → n ≤ (if c then n + 8 else n)
host_least true n = omega arith
host_least false n = omega arith

-- where block k of a read lands
record Lands (m : Setting) (bytes : ℕ) (owner : Owner) (body tuples : List Seg) (k : ℕ) : Type 0 where
  once : Distinct (lists_of owner body tuples)
  below_end : AllBelow bytes (lists_of owner body tuples)
  enough : length (landing m.size owner body tuples k) ≤ (if m.mode.dix then m.size + 8 else m.size)
  front : m.size ≤ length (landing m.size owner body tuples k)
  whole : takes_tuples owner ≡ true → m.size + 8 ≤ length (landing m.size owner body tuples k)

lands : (m : Setting) (bytes : ℕ) (owner : Owner) (n k : ℕ) (body tuples : List Seg) → k < n → HasRoom m bytes owner n body tuples → Lands m bytes owner body tuples k
lands m bytes OfBlock n k body tuples l h =
    let p = part_length body m.size k n h.0 l in
    let least = host_least m.mode.dix m.size in
    record {
      once = distinct (cells_of body) h.1.once;
      below_end = below bytes (cells_of body) h.1.below;
      enough = omega (arith, p, least);
      front = omega (arith, p);
      whole = λ t. absurd (false≢true t);
    }
lands m bytes OfApp n k body tuples l h =
    let p = frame_length m.size body tuples k n h.0 h.1.0 l in
    let size : (if m.mode.dix then m.size + 8 else m.size) ≡ m.size + 8 = ap (λ c. if c then m.size + 8 else m.size) h.1.1.1 in
    record {
      once = distinct (cells_of body ++ cells_of tuples) h.1.1.0.once;
      below_end = below bytes (cells_of body ++ cells_of tuples) h.1.1.0.below;
      enough = omega (arith, p, size);
      front = omega (arith, p);
      whole = λ t. omega (arith, p);
    }

-- one block of an op that is a request
module _ (m : Setting) (falls : Block → Option (List ℕ)) (before after : List Op) (op : Op) (f : ℕ → Step) (n k : ℕ) (opening : State) (l : k < n)
    (steps_are : steps_of m (suc (length before)) op ≡ each_from 0 n f) (replies : (answers : List ActAnswer) → reply_of (m.fails (1 + length before)) op answers ≡ request_reply answers) where
  abbrev does : Step → Act ActAnswer
  does = may_fall m falls

  -- the cells before the op, and before its block k
  abbrev s : State
  s = stepped does (steps_from m 1 before) opening

  abbrev here : State
  here = stepped does (each_from 0 k f) s

  abbrev earlier : List Step
  earlier = steps_from m 1 before ++ each_from 0 k f

  abbrev later : List Step
  later = each_from (suc k) (n - suc k) f

  abbrev rest : List Step
  rest = later ++ steps_from m (suc (1 + length before)) after

  all_steps : steps_of m (1 + length before) op ≡ each_from 0 n f
  all_steps = let e : 1 + length before ≡ suc (length before) = omega arith in ap (λ j. steps_of m j op) e ∙ steps_are

  op_steps : steps_of m (1 + length before) op ≡ each_from 0 k f ++ (f k ∷ later)
  op_steps = all_steps ∙ each_split 0 k n k f l (omega arith)

  at_block : steps_from m 1 (before ++ (op ∷ after)) ≡ earlier ++ (f k ∷ rest)
  at_block =
      let others = steps_from m (suc (1 + length before)) after in
      steps_split m 1 before op after
      ∙ ap (λ xs. steps_from m 1 before ++ (xs ++ others)) op_steps
      ∙ ap (λ xs. steps_from m 1 before ++ xs) (append_assoc (each_from 0 k f) (f k ∷ later) others)
      ∙ sym (append_assoc (steps_from m 1 before) (each_from 0 k f) (f k ∷ rest))

  reached : stepped does earlier opening ≡ here
  reached = stepped_append does (steps_from m 1 before) (each_from 0 k f) opening

  whole_op : stepped does (steps_from m 1 (before ++ (op ∷ []))) opening ≡ stepped does (each_from 0 k f ++ (f k ∷ later)) s
  whole_op =
      ap (λ xs. stepped does xs opening) (steps_split m 1 before op [])
      ∙ stepped_append does (steps_from m 1 before) (steps_of m (1 + length before) op ++ []) opening
      ∙ ap (λ xs. stepped does xs s) (append-nil (steps_of m (1 + length before) op) ∙ op_steps)

  pub why_is : listed_in (get_or (falling_replies m falls 1 (before ++ (op ∷ after)) opening) (length before) Silent) k ≡ (tell (does (f k)) here).why
  why_is =
      ap (λ r. listed_in r k) (reply_at m falls 1 before op after opening ∙ replies (plain_tells act tell (map does (steps_of m (1 + length before) op)) s) ∙ ap (λ steps. request_reply (plain_tells act tell (map does steps) s)) all_steps)
      ∙ block_says does f k n s l

  -- what is known of it
  pub served : IsFallingRun m (before ++ (op ∷ after)) opening → IsServed m opening (falling_past m falls earlier opening []) falls (f k) here
  served run = subst (λ c. IsServed m opening (falling_past m falls earlier opening []) falls (f k) c) reached (each_is_served m falls (before ++ (op ∷ after)) opening earlier rest (f k) run at_block)

module _ (m : Setting) (falls : Block → Option (List ℕ)) (before after : List Op) (owner : Owner) (v n k : ℕ) (body tuples : List Seg) (opening : State) (l : k < n)
    (room : HasRoom m (length opening.bytes) owner n body tuples) (run : IsFallingRun m (before ++ (read_op owner v n body tuples ∷ after)) opening) where
  abbrev i : ℕ
  i = suc (length before)

  abbrev op : Op
  op = read_op owner v n body tuples

  abbrev f : ℕ → Step
  f k = Reads (block_of i v k) owner (landing m.size owner body tuples k)

  abbrev to : List ℕ
  to = landing m.size owner body tuples k

  are_reads : steps_of m i op ≡ each_from 0 n f
  are_reads = read_steps m i v n owner body tuples

  replies_so : (answers : List ActAnswer) → reply_of (m.fails (1 + length before)) op answers ≡ request_reply answers
  replies_so answers = read_reply (m.fails (1 + length before)) v n owner body tuples answers

  abbrev doing : Step → Act ActAnswer
  doing = may_fall m falls

  abbrev began : State
  began = stepped doing (steps_from m 1 before) opening

  abbrev there : State
  there = stepped doing (each_from 0 k f) began

  abbrev past : List Event
  past = falling_past m falls (steps_from m 1 before) opening []

  happened : falling_past m falls (steps_from m 1 before ++ each_from 0 k f) opening [] ≡ past
  happened = past_append m falls (steps_from m 1 before) (each_from 0 k f) opening [] ∙ read_past m falls i v owner body tuples 0 k began past

  abbrev listed : Option Why
  listed = listed_in (get_or (falling_replies m falls 1 (before ++ (op ∷ after)) opening) (length before) Silent) k

  listed_so : listed ≡ (tell (doing (f k)) there).why
  listed_so = why_is m falls before after op f n k opening l are_reads replies_so

  abbrev mine : Lands m (length opening.bytes) owner body tuples k
  mine = lands m (length opening.bytes) owner n k body tuples l room

  -- what stands in the pages where a frame landed
  arrived : (frame : List ℕ) → length to ≤ length frame → (act (doing (f k)) there).bytes ≡ scatter to frame there.bytes → gather 0 to (stepped doing (steps_from m 1 (before ++ (op ∷ []))) opening).bytes ≡ take (length to) frame
  arrived frame size lies =
      let pages : length there.bytes ≡ length opening.bytes = same_pages doing (each_from 0 k f) began ∙ same_pages doing (steps_from m 1 before) opening in
      ap (λ (c : State). gather 0 to c.bytes) (whole_op m falls before after op f n k opening l are_reads replies_so ∙ stepped_append doing (each_from 0 k f) (f k ∷ each_from (suc k) (n - suc k) f) began)
      ∙ later_blocks doing f (λ j. landing m.size owner body tuples j) (lands_there m falls i v owner body tuples) to (suc k) (n - suc k) (act (doing (f k)) there)
      (λ j g _. blocks_apart m.size body tuples owner k j mine.once (omega (arith, g)))
      ∙ ap (gather 0 to) lies
      ∙ landed to frame there.bytes (block_distinct m.size body tuples owner k mine.once)
      (subst (λ p. AllBelow p to) (sym pages) (block_below m.size body tuples owner (length opening.bytes) k mine.below_end)) size

  abbrev last : Brought
  last = last_accepted m opening (block_of i v k) past

  lands_as : LandsAs m (doing (f k)) to last there → IsReadAs m owner last listed (gather 0 to (stepped doing (steps_from m 1 (before ++ (op ∷ []))) opening).bytes)
  lands_as r =
      let size = r.size in
      let enough = mine.enough in
      let e = arrived r.frame (omega (arith, size, enough)) r.lands in
      record {
        is_listed = listed_so ∙ r.not_listed;
        body = ap (data_of m.size) e ∙ take-take m.size (length to) r.frame mine.front ∙ r.body;
        app = λ takes all.
            let whole = mine.whole takes in
            let most = host_most m.mode.dix m.size in
            ap (λ frame. (tuple_of m.size frame).app) (e ∙ take_all (length to) r.frame (omega (arith, size, whole, most))) ∙ r.app all;
      }

  pub reads_or_fails : IsReadOrFails m falls before owner v n body tuples after opening k
  reads_or_fails lost =
      let known : IsServed m opening past falls (f k) there = subst (λ p. IsServed m opening p falls (f k) there) happened (served m falls before after op f n k opening l are_reads replies_so run) in
      elim (known lost) [ inl medium ↦ inl (listed_so ∙ medium) | inr good ↦ inr (lands_as good) ]
