-- From blocks to ops, and to a script by moves in any order.
use Rattle.std.proofs.Common.{◌≡◌, ◌<◌, ◌≤◌, ◌%◌, ◌^◌, ℕ, zero, suc, ◌+◌, ◌*◌, Bool, true, if◌then◌else◌, List, [], ◌∷◌, ◌++◌, length, map, drop, refl, sym, ap, subst, ◌∙◌, arith}
use Rattle.range_gate.specs.Cells.{cells_of}
use Rattle.integrity_payload.specs.declared.payload.Owner.TheVariants.{Block as OfBlock, App as OfApp}
use Rattle.walk_laws.specs.Passed.{Op, Fetch, FetchPi, Fill, Overwrite, Put, Seal, Show, Wait, Write, WritePi, Act, State, act, conflict, tell, ActAnswer, hidden, Leads, all_done, none_done, plain, plain_tells}
use Rattle.walk_laws.proofs.Passed.{commutes, below, distinct, any_whole_order, plain_append}
use Rattle.walk_laws.specs.ScriptWalk.{act_of, acts_from, acts_of, replies_from, reply_of, walk_from}
use Rattle.walk_laws.specs.Settings.{Setting, block_of}
use Rattle.walk_laws.specs.Steps.{Alters, Reads, Seals, Sets, Shows, Step, Writes, WritesPi, body_of, each_from, frame_at, steps_of, tuple_of}
use Rattle.walk_laws.proofs.AnyOrder.{first_tells, other_tells}
use Rattle.walk_laws.proofs.CalmRuns.{frame_length, part_length}
use Rattle.run_laws.proofs.Parts.{block_below, block_distinct}
use Rattle.run_laws.specs.BoundRun.{AllBound, AreTheWalk, IsBound, IsBoundRun, fates, rooms}
use Rattle.run_laws.specs.ScriptMoves.{ByMoves, all_moves, answers_from, blocks_from, blocks_of, by_moves, fates_of, joins, moves_from, own_at, replies_from_moves, room_for, room_of, script_moves}
use Rattle.run_laws.proofs.Does.{Does, IsOwn, IsReady, IsShaped, does_step, keeps}
use Rattle.run_laws.proofs.Turns.{from_less, turn_below, turn_distinct, turn_from, turn_length}
use Rattle.run_laws.proofs.Inside.{room_enough}
use Rattle.run_laws.proofs.Labelled.{tells_append}

abbrev pub wholes : List ByMoves → List (Act ActAnswer)
wholes [] = []
wholes (b ∷ blocks) = b.whole ∷ wholes blocks

pub whole_is : (m : Setting) (own : List ℕ) (fate : ℕ) (step : Step) → (by_moves m own fate step).whole ≡ act_of m step
whole_is m own fate (Sets at values) = refl
whole_is m own fate (Shows at) = refl
whole_is m own fate (Seals body tuple app rtag) = refl
whole_is m own fate (Writes b app body) = refl
whole_is m own fate (WritesPi b frame) = refl
whole_is m own fate (Reads b owner to) = refl
whole_is m own fate (Alters dev lba change) = refl

wholes_are : (m : Setting) (from fate k : ℕ) (steps : List Step) → wholes (blocks_from m from fate k steps) ≡ map (act_of m) steps
wholes_are m from fate k [] = refl
wholes_are m from fate k (step ∷ steps) =
    let first = whole_is m (own_at from k) (fate + k) step in
    let rest = wholes_are m from fate (suc k) steps in
    ap (λ a. a ∷ wholes (blocks_from m from fate (suc k) steps)) first ∙ ap (λ acts. act_of m step ∷ acts) rest

module _ (m : Setting) (fine : ℕ → List ℕ → Bool) (n : ℕ) (opening : State) (room : n ≤ length opening.bytes) where
  abbrev Shaped : State → Type 0
  Shaped s = IsShaped m fine n opening s

  abbrev pub AllDo : List ByMoves → Type 0
  AllDo [] = Unit {0}
  AllDo (b ∷ blocks) = Does m fine n opening b.moves b.whole b.join × AllDo blocks

  pub record AreBlocks (blocks : List ByMoves) (s : State) : Type 0 where
    pub state : hidden n (plain act (all_moves blocks) s) ≡ plain act (wholes blocks) (hidden n s)
    pub answers : joins blocks (plain_tells act tell (all_moves blocks) s) ≡ plain_tells act tell (wholes blocks) (hidden n s)
    pub shape : Shaped (plain act (all_moves blocks) s)

  pub moves_are_blocks : (blocks : List ByMoves) (s : State) → AllDo blocks → Shaped s → AreBlocks blocks s
  moves_are_blocks [] s d p = record { state = refl; answers = refl; shape = p }
  moves_are_blocks (b ∷ blocks) s d p =
      let after = plain act b.moves s in
      let rest = moves_are_blocks blocks after d.1 (keeps m fine n opening b.moves b.whole b.join s d.0 p) in
      let seen = d.0.state s p in
      let first = ap b.join (first_tells act tell b.moves (all_moves blocks) s) ∙ d.0.answer s p in
      let others = ap (joins blocks) (other_tells act tell b.moves (all_moves blocks) s) ∙ rest.answers ∙ ap (plain_tells act tell (wholes blocks)) seen in
      record {
        state = ap (hidden n) (plain_append act b.moves (all_moves blocks) s) ∙ rest.state ∙ ap (plain act (wholes blocks)) seen;
        answers = cc;
        shape = subst Shaped (sym (plain_append act b.moves (all_moves blocks) s)) rest.shape;
      }

  abbrev Ready : (own : List ℕ) → (fate : ℕ) → Step → Type 0
  Ready own fate step = IsReady m fine n opening own fate step

  abbrev pub AllReady : (from fate k : ℕ) → List Step → Type 0
  AllReady from fate k [] = Unit {0}
  AllReady from fate k (step ∷ steps) = Ready (own_at from k) (fate + k) step × AllReady from fate (suc k) steps

  all_do : (from fate k : ℕ) (steps : List Step) → AllReady from fate k steps → AllDo (blocks_from m from fate k steps)
  all_do from fate k [] h = tt
  all_do from fate k (step ∷ steps) h = (does_step m fine n opening (own_at from k) (fate + k) step room h.0, all_do from fate (suc k) steps h.1)

  each_ready : (from fate k count : ℕ) (f : ℕ → Step) → ((j : ℕ) → j < k + count → Ready (own_at from j) (fate + j) (f j)) → AllReady from fate k (each_from k count f)
  each_ready from fate k zero f h = tt
  each_ready from fate k (suc count) f h = (h k (omega arith), each_ready from fate (suc k) count f (λ j l. h j (omega (arith, l))))

  -- the place of a tuple in the private pages of an op
  own_is : (from j count : ℕ) → n ≤ from → from + (if m.mode.dix then room_for count else 0) ≤ length opening.bytes → j < count → m.mode.dix ≡ true → IsOwn m fine n opening (own_at from j)
  own_is from j count l h k on =
      let r : from + room_for count ≤ length opening.bytes = rw (← ap (λ c. from + (if c then room_for count else 0)) on) h in
      let e = room_enough count in
      record {
        eight = turn_length (from + 8 * j) 8;
        behind = from_less (from + 8 * j) n (own_at from j) (omega (arith, l)) (turn_from (from + 8 * j) 8);
        once = turn_distinct (from + 8 * j) 8;
        within = turn_below (from + 8 * j) 8 (length opening.bytes) (omega (arith, r, e, k));
      }

  pub op_ready : (from fate i : ℕ) (op : Op) → n ≤ from → from + room_of m op ≤ length opening.bytes → fate + fates_of op ≤ length opening.fates → IsBound m fine n i op → AllReady from fate 0 (steps_of m i op)
  op_ready from fate i (Fill seg byte) l r f h = (tt, tt)
  op_ready from fate i (Put page off values) l r f h = (tt, tt)
  op_ready from fate i (Show seg) l r f h = (below n (cells_of (seg ∷ [])) h, tt)
  op_ready from fate i (Seal count body tuples app rtag) l r f h =
      each_ready from fate 0 count (λ k. Seals (body_of m.size body k) (tuple_of tuples k) app ((rtag + k) % 2 ^ 32)) (λ j k. block_below m.size body [] OfBlock n j (below n (cells_of body) h))
  op_ready from fate i (Write v count body app) l r f h =
      each_ready from fate 0 count (λ k. Writes (block_of i v k) app (body_of m.size body k)) (λ j k. (
        block_below m.size body [] OfBlock n j (below n (cells_of body) h.0),
        (part_length body m.size j count h.1.0 (omega (arith, k)), (own_is from j count l r (omega (arith, k)), h.1.1 j (omega (arith, k)))),
      ))
  op_ready from fate i (Fetch v count body) l r f h =
      each_ready from fate 0 count (λ k. Reads (block_of i v k) OfBlock (body_of m.size body k)) (λ j k. (
        block_below m.size body [] OfBlock n j (below n (cells_of body) h.0),
        (
          block_distinct m.size body [] OfBlock j (distinct (cells_of body) h.1.1.0),
          ((part_length body m.size j count h.1.0 (omega (arith, k)), own_is from j count l r (omega (arith, k))), (omega (arith, f, k), h.1.1.1 j (omega (arith, k)))),
        ),
      ))
  op_ready from fate i (WritePi v count body tuples) l r f h =
      each_ready from fate 0 count (λ k. WritesPi (block_of i v k) (frame_at m.size body tuples k)) (λ j k. (
        block_below m.size body tuples OfApp n j (below n (cells_of body ++ cells_of tuples) h.0),
        (
          frame_length m.size body tuples j count h.1.0 h.1.1.0 (omega (arith, k)),
          (block_distinct m.size body tuples OfApp j (distinct (cells_of body ++ cells_of tuples) h.1.1.1.0), (h.1.1.1.1.0, h.1.1.1.1.1 j (omega (arith, k)))),
        ),
      ))
  op_ready from fate i (FetchPi v count body tuples) l r f h =
      each_ready from fate 0 count (λ k. Reads (block_of i v k) OfApp (frame_at m.size body tuples k)) (λ j k. (
        block_below m.size body tuples OfApp n j (below n (cells_of body ++ cells_of tuples) h.0),
        (
          block_distinct m.size body tuples OfApp j (distinct (cells_of body ++ cells_of tuples) h.1.1.1.0),
          ((frame_length m.size body tuples j count h.1.0 h.1.1.0 (omega (arith, k)), h.1.1.1.1.0), (omega (arith, f, k), h.1.1.1.1.1 j (omega (arith, k)))),
        ),
      ))
  op_ready from fate i (Overwrite dev lba change) l r f h = (h, tt)
  op_ready from fate i Wait l r f h = tt

  -- the ops from op i on, by moves, where nobody looks behind n
  record ByAllMoves (from fate i : ℕ) (ops : List Op) (s : State) : Type 0 where
    state : hidden n (plain act (moves_from m from fate i ops) s) ≡ walk_from m i ops (hidden n s)
    replies : replies_from_moves m from fate i ops (plain_tells act tell (moves_from m from fate i ops) s) ≡ replies_from m i ops (hidden n s)
    answers : answers_from m from fate i ops (plain_tells act tell (moves_from m from fate i ops) s) ≡ plain_tells act tell (acts_from m i ops) (hidden n s)

  ops_by_moves : (from fate i : ℕ) (ops : List Op) (s : State) → n ≤ from → from + rooms m ops ≤ length opening.bytes → fate + fates ops ≤ length opening.fates → AllBound m fine n i ops → Shaped s → ByAllMoves from fate i ops s
  ops_by_moves from fate i [] s l r f h p = record { state = refl; replies = refl; answers = refl }
  ops_by_moves from fate i (op ∷ ops) s l r f h p =
      let blocks = blocks_of m from fate i op in
      let moves = all_moves blocks in
      let others = moves_from m (from + room_of m op) (fate + fates_of op) (suc i) ops in
      let acts = acts_of m i op in
      let ready = op_ready from fate i op l (omega (arith, r)) (omega (arith, f)) h.0 in
      let one = moves_are_blocks blocks s (all_do from fate 0 (steps_of m i op) ready) p in
      let same = wholes_are m from fate 0 (steps_of m i op) in
      let state = one.state ∙ ap (λ acts. plain act acts (hidden n s)) same in
      let told = one.answers ∙ ap (λ acts. plain_tells act tell acts (hidden n s)) same in
      let rest = ops_by_moves (from + room_of m op) (fate + fates_of op) (suc i) ops (plain act moves s) (omega (arith, l)) (omega (arith, r)) (omega (arith, f)) h.1 one.shape in
      let mine = ap (joins blocks) (first_tells act tell moves others s) ∙ told in
      let yours = other_tells act tell moves others s in
      record {
        state = ap (hidden n) (plain_append act moves others s) ∙ rest.state ∙ ap (walk_from m (suc i) ops) state;
        replies =
            ap (λ answers. reply_of (m.fails i) op answers ∷ replies_from_moves m (from + room_of m op) (fate + fates_of op) (suc i) ops (drop (length moves) (plain_tells act tell (moves ++ others) s))) mine
            ∙ ap (λ rs. reply_of (m.fails i) op (plain_tells act tell acts (hidden n s)) ∷ rs)
            (ap (replies_from_moves m (from + room_of m op) (fate + fates_of op) (suc i) ops) yours ∙ rest.replies ∙ ap (replies_from m (suc i) ops) state);
        answers =
            ap (λ xs. xs ++ answers_from m (from + room_of m op) (fate + fates_of op) (suc i) ops (drop (length moves) (plain_tells act tell (moves ++ others) s))) mine
            ∙ ap (λ xs. plain_tells act tell acts (hidden n s) ++ xs)
            (ap (answers_from m (from + room_of m op) (fate + fates_of op) (suc i) ops) yours ∙ rest.answers ∙ ap (plain_tells act tell (acts_from m (suc i) ops)) state)
            ∙ sym (tells_append acts (acts_from m (suc i) ops) (hidden n s));
      }

-- once all are done, whatever the order was
pub once_done : (m : Setting) (fine : ℕ → List ℕ → Bool) (n : ℕ) (ops : List Op) (opening now : State) (answers : List ActAnswer) → IsBoundRun m fine n ops opening →
    now ≡ plain act (script_moves m n ops) opening → answers ≡ plain_tells act tell (script_moves m n ops) opening → AreTheWalk m n ops opening now answers
once_done m fine n ops opening now answers run state tells =
    let room = run.room in
    let k = ops_by_moves m fine n opening (omega (arith, room)) n 0 1 ops opening (omega arith) run.room (let f = run.found in omega (arith, f)) run.bound (record { bytes = refl; fates = refl; all_fine = run.all_fine }) in
    record {
      cells = ap (hidden n) state ∙ k.state;
      replies = ap (replies_from_moves m n 0 1 ops) tells ∙ k.replies;
      answers_are = ap (answers_from m n 0 1 ops) tells ∙ k.answers;
    }

pub in_any_order : (m : Setting) (fine : ℕ → List ℕ → Bool) (n : ℕ) (ops : List Op) (opening now : State) (places : List ℕ) (answers : List ActAnswer) → IsBoundRun m fine n ops opening →
    Leads act tell conflict (script_moves m n ops) places (none_done (script_moves m n ops)) opening (all_done answers) now → AreTheWalk m n ops opening now answers
in_any_order m fine n ops opening now places answers run l =
    let h = any_whole_order act tell conflict commutes (script_moves m n ops) places opening answers now l in
    once_done m fine n ops opening now answers run h.0 h.1
