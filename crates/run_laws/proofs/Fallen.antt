-- Moves of blocks whose store calls fail, in any order.
use Rattle.std.proofs.Common.{◌≡◌, ◌≤◌, ℕ, suc, ◌+◌, Bool, true, false, List, [], ◌∷◌, ◌++◌, length, map, drop, get_or, Option, Some, None, refl, sym, ap, ◌∙◌, arith}
use Rattle.std.specs.Prelude.{IfSome, Result, Ok, Err}
use Rattle.std.proofs.lemmas.List.{map-append}
use Rattle.page_pool.specs.Cells.{gather, scatter}
use Rattle.pi_tuple.specs.declared.checks.Check.{Check}
use Rattle.integrity_payload.specs.declared.payload.Owner.{Owner}
use Rattle.integrity_payload.specs.declared.payload.Owner.TheVariants.{Block as OfBlock, App as OfApp}
use Rattle.walk_laws.specs.Passed.{Op, Act, Effect, State, act, conflict, effect, tell, ActAnswer, own_cell, nothing_written, own_frame, silent, stored_cell, tuple_after, written_by, carry_in, carry_out, hidden, make_tuple, map_back, map_out, settle, Route, Leads, all_done, none_done, plain, plain_tells, from_adapter, mapped_out, to_wire, Why, Adapter, App, Block as ByOwner, TheVariantsMedium as Medium, Refused, Short, Target}
use Rattle.walk_laws.proofs.Passed.{commutes, same_cells, any_whole_order}
use Rattle.walk_laws.specs.Past.{steps_from}
use Rattle.walk_laws.specs.ScriptWalk.{replies_by}
use Rattle.walk_laws.specs.Settings.{Block, Setting, route}
use Rattle.walk_laws.specs.Steps.{Alters, Reads, Seals, Sets, Shows, Step, Writes, WritesPi, steps_of}
use Rattle.run_laws.specs.StoreFaults.{failing, leaving, left_by, may_fall, or_fallen, over_failing}
use Rattle.run_laws.proofs.FallingOps.{replies_are}
use Rattle.walk_laws.proofs.InSteps.{acts_stepped}
use Rattle.run_laws.specs.BoundRun.{AllBound, IsBoundRun, Suits, fates, rooms}
use Rattle.run_laws.specs.FallingMoves.{AreTheFallingWalk, LeavesFine, falling_blocks, falling_from, falling_moves, left_of, moves_or_fallen, spoiled}
use Rattle.run_laws.specs.ScriptMoves.{carried_by, lands_in, write_moves, ByMoves, by_moves, fates_of, joins, own_at, room_of}
use Rattle.run_laws.proofs.Does.{Does, FitsHost, IsOwn, IsReady, IsShaped, does_step, set_fine}
use Rattle.run_laws.proofs.Ordered.{AllDo, AllReady, moves_are_blocks, op_ready, wholes}

-- A failing store call changes nothing but what lies in the cell.
left_rule : (P : Effect ActAnswer → Type 0) (why : Option Why) (left : List ℕ) (e : Effect ActAnswer) → P e → P (record { written = record e.written { blocks = left ∷ [] }; answer = e.answer }) → P (left_by why left e)
left_rule P None left e h k = h
left_rule P (Some Medium) left e h k = k
left_rule P (Some (Adapter check)) left e h k = h
left_rule P (Some (Target check)) left e h k = h
left_rule P (Some (ByOwner check)) left e h k = h
left_rule P (Some (App check)) left e h k = h
left_rule P (Some (Refused key asc ascq)) left e h k = h
left_rule P (Some Short) left e h k = h

-- what then lies there, where nothing was to be stored
abbrev spill : Option Why → List ℕ → List (List ℕ)
spill why left = (left_by why left (record { written = nothing_written; answer = silent })).written.blocks

spill_is : (why : Option Why) (left : List ℕ) (e : Effect ActAnswer) → e.written.blocks ≡ [] → (left_by why left e).written.blocks ≡ spill why left
spill_is None left e h = h
spill_is (Some Medium) left e h = refl
spill_is (Some (Adapter check)) left e h = h
spill_is (Some (Target check)) left e h = h
spill_is (Some (ByOwner check)) left e h = h
spill_is (Some (App check)) left e h = h
spill_is (Some (Refused key asc ascq)) left e h = h
spill_is (Some Short) left e h = h

-- what is left by such a call, in the cell of a block
abbrev leaves_at : ℕ → List ℕ → Option Why → State → State → State
leaves_at cell left why before now = record now { blocks = scatter (cell ∷ []) (spill why left) before.blocks }

module _ (left : List ℕ) (a : Act ActAnswer) (s : State) where
  abbrev e : Effect ActAnswer
  e = effect a s

  spoiled_tells : tell (spoiled left a) s ≡ tell a s
  spoiled_tells = left_rule (λ x. x.answer ≡ e.answer) e.answer.why left e refl refl

  spoiled_with : (blocks : List (List ℕ)) → scatter a.blocks.writes (leaving left e).written.blocks s.blocks ≡ blocks → act (spoiled left a) s ≡ record (act a s) { blocks = blocks }
  spoiled_with blocks h = same_cells _ _ _ _ _ _ _ _
      (ap (λ x. scatter a.bytes.writes x s.bytes) (left_rule (λ x. x.written.bytes ≡ e.written.bytes) e.answer.why left e refl refl))
      h
      (ap (λ x. scatter a.logs.writes x s.logs) (left_rule (λ x. x.written.logs ≡ e.written.logs) e.answer.why left e refl refl))
      (ap (λ x. scatter a.fates.writes x s.fates) (left_rule (λ x. x.written.fates ≡ e.written.fates) e.answer.why left e refl refl))

  -- a move that stores nothing, and one that would store in this cell
  spoiled_same : a.blocks.writes ≡ [] → act (spoiled left a) s ≡ act a s
  spoiled_same none = spoiled_with (act a s).blocks (none_there (leaving left e).written.blocks e.written.blocks) where
    none_there : (x y : List (List ℕ)) → scatter a.blocks.writes x s.blocks ≡ scatter a.blocks.writes y s.blocks
    none_there x y = ap (λ at. scatter at x s.blocks) none ∙ sym (ap (λ at. scatter at y s.blocks) none)

  spoiled_does : (cell : ℕ) → a.blocks.writes ≡ cell ∷ [] → e.written.blocks ≡ [] → act (spoiled left a) s ≡ leaves_at cell left e.answer.why s (act a s)
  spoiled_does cell there empty = spoiled_with (scatter (cell ∷ []) (spill e.answer.why left) s.blocks)
      (ap (λ at. scatter at (leaving left e).written.blocks s.blocks) there ∙ ap (λ x. scatter (cell ∷ []) x s.blocks) (spill_is e.answer.why left e empty))

-- over a device whose calls fail nothing is stored
stores_nothing : (r : Route) (came : Result (List ℕ) Check) (back : List ℕ) (log : List (List ℕ)) → map (λ frame. frame) (written_by r (from_adapter failing r came) back log).written.blocks ≡ []
stores_nothing r (Ok carried) back log = refl
stores_nothing r (Err check) back log = refl

module _ (m : Setting) (fine : ℕ → List ℕ → Bool) (n : ℕ) (opening : State) where
  abbrev M : Setting
  M = over_failing m

  fine_left : (why : Option Why) (cell : ℕ) (left : List ℕ) (blocks : List (List ℕ)) → fine cell left ≡ true → ((c : ℕ) → fine c (get_or blocks c []) ≡ true) → (c : ℕ) → fine c (get_or (scatter (cell ∷ []) (spill why left) blocks) c []) ≡ true
  fine_left why cell left blocks h all c = left_rule (λ x. fine c (get_or (scatter (cell ∷ []) x.written.blocks blocks) c []) ≡ true) why left (record { written = nothing_written; answer = silent }) (all c) (set_fine fine cell left blocks h all c)

  shape_same : (s : State) → IsShaped m fine n opening s → IsShaped M fine n opening s
  shape_same s p = record { bytes = p.bytes; fates = p.fates; all_fine = p.all_fine }

  own_same : (own : List ℕ) → IsOwn m fine n opening own → IsOwn M fine n opening own
  own_same own p = record { eight = p.eight; behind = p.behind; once = p.once; within = p.within }

  suits_failing : (b : Block) → Suits M fine b
  suits_failing b = record { stores = λ frame e. tt; leaves = λ old frame o f. f; sends = λ stored e. tt }

  -- a block of a write: its moves and its act leave the same in its cell
  fallen_write : (left : List ℕ) (cell : ℕ) (moves : List (Act ActAnswer)) (whole : Act ActAnswer) (join : List ActAnswer → ActAnswer) → fine cell left ≡ true → Does M fine n opening moves whole join →
      ((s : State) → plain act (map (spoiled left) moves) s ≡ leaves_at cell left (join (plain_tells act tell moves s)).why s (plain act moves s)) →
      ((s : State) → plain_tells act tell (map (spoiled left) moves) s ≡ plain_tells act tell moves s) →
      whole.blocks.writes ≡ cell ∷ [] → ((s : State) → (effect whole s).written.blocks ≡ []) → Does m fine n opening (map (spoiled left) moves) (spoiled left whole) join
  fallen_write left cell moves whole join h d moved told there empty = record {
    state = λ s p.
        let q = shape_same s p in
        ap (hidden n) (moved s)
        ∙ ap (λ t. leaves_at cell left (join (plain_tells act tell moves s)).why s t) (d.state s q)
        ∙ ap (λ (t : ActAnswer). leaves_at cell left t.why s (act whole (hidden n s))) (d.answer s q)
        ∙ sym (spoiled_does left whole (hidden n s) cell there (empty (hidden n s)));
    answer = λ s p. ap join (told s) ∙ d.answer s (shape_same s p) ∙ sym (spoiled_tells left whole (hidden n s));
    fine_after = λ s p c.
        ap (λ (t : State). fine c (get_or t.blocks c [])) (spoiled_does left whole (hidden n s) cell there (empty (hidden n s)))
        ∙ fine_left (tell whole (hidden n s)).why cell left s.blocks h p.all_fine c;
  }

  module _ (left : List ℕ) (b : Block) where
    abbrev r : Route
    r = route M b

    abbrev cell : ℕ
    cell = stored_cell m.site (route m b)

    carry_left : (frame : List ℕ) (s : State) → act (spoiled left (carry_out M.site r frame)) s ≡ leaves_at cell left (tell (carry_out M.site r frame) s).why s (act (carry_out M.site r frame) s)
    carry_left frame s = spoiled_does left (carry_out M.site r frame) s cell refl (stores_nothing r (to_wire m.site.faults r (gather 0 frame s.bytes)) [] (get_or s.logs (own_cell m.site r) []))

    write_left : (app : ℕ) (body own : List ℕ) (dix : Bool) (s : State) → let moves = write_moves M b app body own dix in
        plain act (map (spoiled left) moves) s ≡ leaves_at cell left (get_or (plain_tells act tell moves s) (carried_by dix) silent).why s (plain act moves s)
    write_left app body own true s = ap (act (map_back r own)) (carry_left (body ++ own) (act (map_out r own) (act (make_tuple r app body own) s)))
    write_left app body own false s = carry_left body s

    write_told : (app : ℕ) (body own : List ℕ) (dix : Bool) (s : State) → let moves = write_moves M b app body own dix in plain_tells act tell (map (spoiled left) moves) s ≡ plain_tells act tell moves s
    write_told app body own true s =
        let before = act (map_out r own) (act (make_tuple r app body own) s) in
        ap (λ t. silent ∷ silent ∷ t ∷ silent ∷ []) (spoiled_tells left (carry_out M.site r (body ++ own)) before)
    write_told app body own false s = ap (λ t. t ∷ []) (spoiled_tells left (carry_out M.site r body) s)

    write_does : (app : ℕ) (body own : List ℕ) (fate : ℕ) → n ≤ length opening.bytes → fine cell left ≡ true → IsReady m fine n opening own fate (Writes b app body) →
        let x = moves_or_fallen m own fate (Writes b app body) (Some left) in Does m fine n opening x.moves x.whole x.join
    write_does app body own fate room h ready =
        let x = by_moves M own fate (Writes b app body) in
        fallen_write left cell x.moves x.whole x.join h
        (does_step M fine n opening own fate (Writes b app body) room (ready.0, (ready.1.0, (λ e. own_same own (ready.1.1.0 e), suits_failing b))))
        (write_left app body own m.mode.dix) (write_told app body own m.mode.dix) refl
        (λ s. stores_nothing r (to_wire m.site.faults r (mapped_out r (own_frame r app (gather 0 body s.bytes)))) [] (get_or s.logs (own_cell m.site r) []))

    pi_does : (frame own : List ℕ) (fate : ℕ) → n ≤ length opening.bytes → fine cell left ≡ true → IsReady m fine n opening own fate (WritesPi b frame) →
        let x = moves_or_fallen m own fate (WritesPi b frame) (Some left) in Does m fine n opening x.moves x.whole x.join
    pi_does frame own fate room h ready =
        let x = by_moves M own fate (WritesPi b frame) in
        let tuple = drop m.size frame in
        fallen_write left cell x.moves x.whole x.join h
        (does_step M fine n opening own fate (WritesPi b frame) room (ready.0, (ready.1.0, (ready.1.1.0, (ready.1.1.1.0, suits_failing b)))))
        (λ s. ap (act (map_back r tuple)) (carry_left frame (act (map_out r tuple) s)))
        (λ s. ap (λ t. silent ∷ t ∷ silent ∷ []) (spoiled_tells left (carry_out M.site r frame) (act (map_out r tuple) s))) refl
        (λ s. stores_nothing r (to_wire m.site.faults r (mapped_out r (gather 0 frame s.bytes))) (tuple_after r (drop m.size (gather 0 frame s.bytes))) (get_or s.logs (own_cell m.site r) []))

    -- a block of a read stores nothing
    read_does : (owner : Owner) (to own : List ℕ) (fate : ℕ) → n ≤ length opening.bytes → IsReady m fine n opening own fate (Reads b owner to) →
        let x = moves_or_fallen m own fate (Reads b owner to) (Some left) in Does m fine n opening x.moves x.whole x.join
    read_does owner to own fate room ready =
        let x = by_moves M own fate (Reads b owner to) in
        let at = lands_in owner m.mode.dix to own in
        let carry = carry_in M.site r at fate in
        let rest = settle r owner at fate in
        let d = does_step M fine n opening own fate (Reads b owner to) room (ready.0, (ready.1.0, (fits owner ready.1.1.0, (ready.1.1.1.0, suits_failing b)))) in
        record {
          state = λ s p.
              ap (λ t. hidden n (act (spoiled left rest) t)) (spoiled_same left carry s refl) ∙ ap (hidden n) (spoiled_same left rest (act carry s) refl)
              ∙ d.state s (shape_same s p)
              ∙ sym (spoiled_same left x.whole (hidden n s) refl);
          answer = λ s p.
              ap x.join
              (ap (λ t. t ∷ tell (spoiled left rest) (act (spoiled left carry) s) ∷ []) (spoiled_tells left carry s)
              ∙ ap (λ t. tell carry s ∷ tell (spoiled left rest) t ∷ []) (spoiled_same left carry s refl)
              ∙ ap (λ t. tell carry s ∷ t ∷ []) (spoiled_tells left rest (act carry s)))
              ∙ d.answer s (shape_same s p)
              ∙ sym (spoiled_tells left x.whole (hidden n s));
          fine_after = λ s p c. p.all_fine c;
        }
      where
        fits : (owner : Owner) → FitsHost m fine n opening owner own to → FitsHost M fine n opening owner own to
        fits OfBlock h = (h.0, λ e. own_same own (h.1 e))
        fits OfApp h = h

  -- a step whose store call may fail
  may_do : (falls : Block → Option (List ℕ)) (own : List ℕ) (fate : ℕ) (step : Step) → n ≤ length opening.bytes → LeavesFine m fine falls → IsReady m fine n opening own fate step →
      let x = moves_or_fallen m own fate step (left_of falls step) in Does m fine n opening x.moves x.whole x.join
  may_do falls own fate (Sets at values) room h ready = does_step m fine n opening own fate (Sets at values) room ready
  may_do falls own fate (Shows at) room h ready = does_step m fine n opening own fate (Shows at) room ready
  may_do falls own fate (Seals body tuple app rtag) room h ready = does_step m fine n opening own fate (Seals body tuple app rtag) room ready
  may_do falls own fate (Alters dev lba change) room h ready = does_step m fine n opening own fate (Alters dev lba change) room ready
  may_do falls own fate (Writes b app body) room h ready = by (falls b) (h b) where
    by : (o : Option (List ℕ)) → IfSome o (λ left. fine (stored_cell m.site (route m b)) left ≡ true) → let x = moves_or_fallen m own fate (Writes b app body) o in Does m fine n opening x.moves x.whole x.join
    by None k = does_step m fine n opening own fate (Writes b app body) room ready
    by (Some left) k = write_does left b app body own fate room k ready
  may_do falls own fate (WritesPi b frame) room h ready = by (falls b) (h b) where
    by : (o : Option (List ℕ)) → IfSome o (λ left. fine (stored_cell m.site (route m b)) left ≡ true) → let x = moves_or_fallen m own fate (WritesPi b frame) o in Does m fine n opening x.moves x.whole x.join
    by None k = does_step m fine n opening own fate (WritesPi b frame) room ready
    by (Some left) k = pi_does left b frame own fate room k ready
  may_do falls own fate (Reads b owner to) room h ready = by (falls b) where
    by : (o : Option (List ℕ)) → let x = moves_or_fallen m own fate (Reads b owner to) o in Does m fine n opening x.moves x.whole x.join
    by None = does_step m fine n opening own fate (Reads b owner to) room ready
    by (Some left) = read_does left b owner to own fate room ready

-- what a block does, if its call may fail
fallen_is : (m : Setting) (falls : Block → Option (List ℕ)) (own : List ℕ) (fate : ℕ) (step : Step) → (moves_or_fallen m own fate step (left_of falls step)).whole ≡ may_fall m falls step
fallen_is m falls own fate (Sets at values) = refl
fallen_is m falls own fate (Shows at) = refl
fallen_is m falls own fate (Seals body tuple app rtag) = refl
fallen_is m falls own fate (Alters dev lba change) = refl
fallen_is m falls own fate (Writes b app body) = by (falls b) where
  by : (o : Option (List ℕ)) → (moves_or_fallen m own fate (Writes b app body) o).whole ≡ or_fallen m (Writes b app body) o
  by None = refl
  by (Some left) = refl
fallen_is m falls own fate (WritesPi b frame) = by (falls b) where
  by : (o : Option (List ℕ)) → (moves_or_fallen m own fate (WritesPi b frame) o).whole ≡ or_fallen m (WritesPi b frame) o
  by None = refl
  by (Some left) = refl
fallen_is m falls own fate (Reads b owner to) = by (falls b) where
  by : (o : Option (List ℕ)) → (moves_or_fallen m own fate (Reads b owner to) o).whole ≡ or_fallen m (Reads b owner to) o
  by None = refl
  by (Some left) = refl

wholes_append : (xs ys : List ByMoves) → wholes (xs ++ ys) ≡ wholes xs ++ wholes ys
wholes_append [] ys = refl
wholes_append (x ∷ xs) ys = ap (λ acts. x.whole ∷ acts) (wholes_append xs ys)

module _ (m : Setting) (falls : Block → Option (List ℕ)) where
  wholes_from : (from fate k : ℕ) (steps : List Step) → wholes (falling_from m falls from fate k steps) ≡ map (may_fall m falls) steps
  wholes_from from fate k [] = refl
  wholes_from from fate k (step ∷ steps) =
      ap (λ a. a ∷ wholes (falling_from m falls from fate (suc k) steps)) (fallen_is m falls (own_at from k) (fate + k) step)
      ∙ ap (λ acts. may_fall m falls step ∷ acts) (wholes_from from fate (suc k) steps)

  all_wholes : (from fate i : ℕ) (ops : List Op) → wholes (falling_blocks m falls from fate i ops) ≡ map (may_fall m falls) (steps_from m i ops)
  all_wholes from fate i [] = refl
  all_wholes from fate i (op ∷ ops) =
      let mine = falling_from m falls from fate 0 (steps_of m i op) in
      let others = falling_blocks m falls (from + room_of m op) (fate + fates_of op) (suc i) ops in
      wholes_append mine others
      ∙ ap (λ acts. acts ++ wholes others) (wholes_from from fate 0 (steps_of m i op))
      ∙ ap (λ acts. map (may_fall m falls) (steps_of m i op) ++ acts) (all_wholes (from + room_of m op) (fate + fates_of op) (suc i) ops)
      ∙ sym (map-append (may_fall m falls) (steps_of m i op) (steps_from m (suc i) ops))

  module _ (fine : ℕ → List ℕ → Bool) (n : ℕ) (opening : State) (room : n ≤ length opening.bytes) (leaves : LeavesFine m fine falls) where
    abbrev Do : List ByMoves → Type 0
    Do blocks = AllDo m fine n opening room blocks

    do_from : (from fate k : ℕ) (steps : List Step) → AllReady m fine n opening room from fate k steps → Do (falling_from m falls from fate k steps)
    do_from from fate k [] h = tt
    do_from from fate k (step ∷ steps) h = (may_do m fine n opening falls (own_at from k) (fate + k) step room leaves h.0, do_from from fate (suc k) steps h.1)

    do_both : (xs ys : List ByMoves) → Do xs → Do ys → Do (xs ++ ys)
    do_both [] ys h k = k
    do_both (x ∷ xs) ys h k = (h.0, do_both xs ys h.1 k)

    all_do : (from fate i : ℕ) (ops : List Op) → n ≤ from → from + rooms m ops ≤ length opening.bytes → fate + fates ops ≤ length opening.fates → AllBound m fine n i ops → Do (falling_blocks m falls from fate i ops)
    all_do from fate i [] l r f h = tt
    all_do from fate i (op ∷ ops) l r f h = do_both (falling_from m falls from fate 0 (steps_of m i op)) (falling_blocks m falls (from + room_of m op) (fate + fates_of op) (suc i) ops)
        (do_from from fate 0 (steps_of m i op) (op_ready m fine n opening room from fate i op l (omega (arith, r)) (omega (arith, f)) h.0))
        (all_do (from + room_of m op) (fate + fates_of op) (suc i) ops (omega (arith, l)) (omega (arith, r)) (omega (arith, f)) h.1)

pub falling_in_any_order : (m : Setting) (falls : Block → Option (List ℕ)) (fine : ℕ → List ℕ → Bool) (n : ℕ) (ops : List Op) (opening now : State) (places : List ℕ) (answers : List ActAnswer) →
    IsBoundRun m fine n ops opening → LeavesFine m fine falls →
    Leads act tell conflict (falling_moves m falls n ops) places (none_done (falling_moves m falls n ops)) opening (all_done answers) now → AreTheFallingWalk m falls n ops opening now answers
falling_in_any_order m falls fine n ops opening now places answers run leaves l =
    let blocks = falling_blocks m falls n 0 1 ops in
    let h = any_whole_order act tell conflict commutes (falling_moves m falls n ops) places opening answers now l in
    let enough = run.room in
    let found = run.found in
    let room : n ≤ length opening.bytes = omega (arith, enough) in
    let shaped : IsShaped m fine n opening opening = record { bytes = refl; fates = refl; all_fine = run.all_fine } in
    let k = moves_are_blocks m fine n opening room blocks opening (all_do m falls fine n opening room leaves n 0 1 ops (omega arith) run.room (omega (arith, found)) run.bound) shaped in
    let same = all_wholes m falls n 0 1 ops in
    record {
      cells = ap (hidden n) h.0 ∙ k.state ∙ ap (λ acts. plain act acts (hidden n opening)) same ∙ acts_stepped (may_fall m falls) (steps_from m 1 ops) (hidden n opening);
      replies = ap (λ answers. replies_by m 1 ops (joins blocks answers)) h.1 ∙ ap (replies_by m 1 ops) (k.answers ∙ ap (λ acts. plain_tells act tell acts (hidden n opening)) same) ∙ replies_are m falls 1 ops (hidden n opening);
    }
