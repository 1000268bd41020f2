-- What was not carried may come to another device.
use Rattle.std.proofs.Common.{◌≡◌, ◌≤◌, ◌⊎◌, inl, inr, ℕ, zero, suc, ◌+◌, ◌%◌, ◌^◌, Bool, true, false, List, [], ◌∷◌, ◌++◌, length, drop, get_or, map, Some, None, refl, sym, ap, subst, ◌∙◌, arith, length-append}
use Rattle.std.specs.Prelude.{Result, Ok, Err}
use Rattle.std.proofs.lemmas.Bool.{false≢true}
use Rattle.page_pool.specs.Cells.{gather, scatter}
use Rattle.pi_tuple.specs.declared.checks.Check.{Check}
use Rattle.integrity_payload.specs.declared.payload.Owner.TheVariants.{Block as OfBlock, App as OfApp}
use Rattle.block_path.specs.declared.route.Route.{Route}
use Rattle.block_path.specs.Acts.{Act, Effect, State, act, conflict, effect, tell}
use Rattle.block_path.specs.Blocks.{ActAnswer, Sent, fetched_cell, own_cell, silent, stored_cell, stored_over, written_by}
use Rattle.block_path.specs.Moves.{carried_in, carry_in, carry_out, make_tuple, map_back, map_out, settle}
use Rattle.block_path.specs.Routes.{Device}
use Rattle.block_path.specs.Serial.{Alike, StandFor}
use Rattle.block_path.specs.WayIn.{from_device}
use Rattle.block_path.specs.WayOut.{at_device, from_adapter, to_wire}
use Rattle.block_path.proofs.Acts.{same_cells}
use Rattle.block_path.proofs.Given.{stand_for}
use Rattle.run_laws.specs.Passed.{Block, Setting, block_of, route, Alters, Reads, Seals, Sets, Shows, Step, Writes, WritesPi, body_of, each_from, frame_at, steps_of, tuple_of, Op, Fetch, FetchPi, Fill, Overwrite, Put, Seal, Show, Wait, Write, WritePi}
use Rattle.run_laws.specs.ScriptMoves.{all_moves, blocks_from, blocks_of, by_moves, carried_by, fates_of, lands_in, moves_from, own_at, room_of, script_moves, write_moves}
use Rattle.stack_walk_laws.specs.Following.{AllStand, Follows, StandFrom}
use Rattle.stack_walk_laws.specs.Sending.{is_carried}
use Rattle.stack_walk_laws.specs.Slots.{Admitted, Carried, Cut, Done as AllDone, StepParts, Settled, SlotStands, Status, Waits, before_carrying, done_by, parts_of, so_far, write_parts}
use Rattle.stack_walk_laws.proofs.Runs.{Done, Moves, far_length}

-- moves in pairs: those that are done do the same
pub record SameAct (a b : Act ActAnswer) : Type 0 where
  pub state : (s : State) → act a s ≡ act b s
  pub answer : (s : State) → tell a s ≡ tell b s

abbrev Pairs : Moves → Moves → List ActAnswer → Type 0
Pairs [] [] answers = Unit {0}
Pairs [] (y ∷ ys) answers = ⊥
Pairs (x ∷ xs) [] answers = ⊥
Pairs (x ∷ xs) (y ∷ ys) [] = Alike conflict x y × Pairs xs ys []
Pairs (x ∷ xs) (y ∷ ys) (r ∷ answers) = (Alike conflict x y × SameAct x y) × Pairs xs ys answers

same_pairs : (xs : Moves) (answers : List ActAnswer) → Pairs xs xs answers
same_pairs [] answers = tt
same_pairs (x ∷ xs) [] = (record { one = λ y. refl; other = λ y. refl }, same_pairs xs [])
same_pairs (x ∷ xs) (r ∷ answers) = ((record { one = λ y. refl; other = λ y. refl }, record { state = λ s. refl; answer = λ s. refl }), same_pairs xs answers)

pairs_mid : (front : Moves) (a b : Act ActAnswer) (back : Moves) (answers : List ActAnswer) → Alike conflict a b → (length answers ≤ length front) ⊎ SameAct a b → Pairs (front ++ (a ∷ back)) (front ++ (b ∷ back)) answers
pairs_mid [] a b back [] l h = (l, same_pairs back [])
pairs_mid [] a b back (r ∷ answers) l (inl u) = absurd (omega (arith, u))
pairs_mid [] a b back (r ∷ answers) l (inr same) = ((l, same), same_pairs back answers)
pairs_mid (x ∷ front) a b back [] l h = (record { one = λ y. refl; other = λ y. refl }, pairs_mid front a b back [] l (inl (omega arith)))
pairs_mid (x ∷ front) a b back (r ∷ answers) l (inl u) = ((record { one = λ y. refl; other = λ y. refl }, record { state = λ s. refl; answer = λ s. refl }), pairs_mid front a b back answers l (inl (omega (arith, u))))
pairs_mid (x ∷ front) a b back (r ∷ answers) l (inr same) = ((record { one = λ y. refl; other = λ y. refl }, record { state = λ s. refl; answer = λ s. refl }), pairs_mid front a b back answers l (inr same))

far_same : (xs ys : Moves) (answers : List ActAnswer) → Pairs xs ys answers → so_far xs answers ≡ so_far ys answers
far_same [] [] answers h = refl
far_same [] (y ∷ ys) answers h = absurd h
far_same (x ∷ xs) [] answers h = absurd h
far_same (x ∷ xs) (y ∷ ys) [] h = ap (λ rest. None ∷ rest) (far_same xs ys [] h.1)
far_same (x ∷ xs) (y ∷ ys) (r ∷ answers) h = ap (λ rest. Some r ∷ rest) (far_same xs ys answers h.1)

abbrev Stand : Moves → Moves → Done → Type 0
Stand xs ys ds = (s : State) → StandFor act tell conflict xs ys ds s

stand_pairs : (xs ys as' bs' : Moves) (answers : List ActAnswer) (ds : Done) → Pairs xs ys answers → Stand as' bs' ds → Stand (xs ++ as') (ys ++ bs') (so_far xs answers ++ ds)
stand_pairs [] [] as' bs' answers ds h k s = k s
stand_pairs [] (y ∷ ys) as' bs' answers ds h k s = absurd h
stand_pairs (x ∷ xs) [] as' bs' answers ds h k s = absurd h
stand_pairs (x ∷ xs) (y ∷ ys) as' bs' [] ds h k s = (h.0, stand_pairs xs ys as' bs' [] ds h.1 k s)
stand_pairs (x ∷ xs) (y ∷ ys) as' bs' (r ∷ answers) ds h k s = (h.0.0, (h.0.1.state s, (h.0.1.answer s, stand_pairs xs ys as' bs' answers ds h.1 k (act x s))))

-- of lists that are joined, at each state
stand_both : (xs ys fs gs : Moves) (ds es : Done) (s : State) → length ds ≡ length xs → StandFor act tell conflict xs ys ds s → Stand fs gs es → StandFor act tell conflict (xs ++ fs) (ys ++ gs) (ds ++ es) s
stand_both [] ys fs gs [] es s l h k = rw h (k s)
stand_both [] ys fs gs (d ∷ ds) es s l h k = absurd (omega (arith, l))
stand_both (x ∷ xs) ys fs gs [] es s l h k = absurd (omega (arith, l))
stand_both (x ∷ xs) [] fs gs (d ∷ ds) es s l h k = absurd h
stand_both (x ∷ xs) (y ∷ ys) fs gs (None ∷ ds) es s l h k = (h.0, stand_both xs ys fs gs ds es s (omega (arith, l)) h.1 k)
stand_both (x ∷ xs) (y ∷ ys) fs gs (Some r ∷ ds) es s l h k = (h.0, (h.1.0, (h.1.1.0, stand_both xs ys fs gs ds es (act x s) (omega (arith, l)) h.1.1.1 k)))

-- the label of each step's block is its op and its place

abbrev pub HasLabel : (i k : ℕ) → Step → Type 0
HasLabel i k (Sets at values) = Unit {0}
HasLabel i k (Shows at) = Unit {0}
HasLabel i k (Seals body tuple app rtag) = Unit {0}
HasLabel i k (Writes b app body) = (b.op ≡ i) × (b.k ≡ k)
HasLabel i k (WritesPi b frame) = (b.op ≡ i) × (b.k ≡ k)
HasLabel i k (Reads b owner to) = (b.op ≡ i) × (b.k ≡ k)
HasLabel i k (Alters dev lba change) = Unit {0}

abbrev pub Labelled : (i k : ℕ) → List Step → Type 0
Labelled i k [] = Unit {0}
Labelled i k (step ∷ steps) = HasLabel i k step × Labelled i (suc k) steps

each_labelled : (i k n : ℕ) (f : ℕ → Step) → ((j : ℕ) → HasLabel i j (f j)) → Labelled i k (each_from k n f)
each_labelled i k zero f h = tt
each_labelled i k (suc n) f h = (h k, each_labelled i (suc k) n f h)

pub op_labelled : (m : Setting) (i : ℕ) (op : Op) → Labelled i 0 (steps_of m i op)
op_labelled m i (Fill seg byte) = (tt, tt)
op_labelled m i (Put page off values) = (tt, tt)
op_labelled m i (Show seg) = (tt, tt)
op_labelled m i (Seal n body tuples app rtag) = each_labelled i 0 n (λ k. Seals (body_of m.size body k) (tuple_of tuples k) app ((rtag + k) % 2 ^ 32)) (λ j. tt)
op_labelled m i (Write v n body app) = each_labelled i 0 n (λ k. Writes (block_of i v k) app (body_of m.size body k)) (λ j. (refl, refl))
op_labelled m i (Fetch v n body) = each_labelled i 0 n (λ k. Reads (block_of i v k) OfBlock (body_of m.size body k)) (λ j. (refl, refl))
op_labelled m i (WritePi v n body tuples) = each_labelled i 0 n (λ k. WritesPi (block_of i v k) (frame_at m.size body tuples k)) (λ j. (refl, refl))
op_labelled m i (FetchPi v n body tuples) = each_labelled i 0 n (λ k. Reads (block_of i v k) OfApp (frame_at m.size body tuples k)) (λ j. (refl, refl))
op_labelled m i (Overwrite dev lba change) = (tt, tt)
op_labelled m i Wait = tt

-- the same setting with this behind the adapter
abbrev pub over : Setting → Device → Setting
over m d = record m { site = record m.site { device = d } }

-- Two devices do the same with this block.
pub record SameFor (one two : Device) (r : Route) : Type 0 where
  pub stores : (frame : List ℕ) → one.stores r frame ≡ two.stores r frame
  pub sends : (stored : List ℕ) → one.sends r stored ≡ two.sends r stored
  pub leaves : (old frame : List ℕ) → one.leaves r old frame ≡ two.leaves r old frame

not_yet : (p : StepParts) (status : Status) (n : ℕ) → is_carried status ≡ false → n ≡ done_by p status → n ≤ before_carrying p
not_yet p Waits n c e = omega (arith, e)
not_yet p Admitted n c e = omega (arith, e)
not_yet p Cut n c e = omega (arith, e)
not_yet p (Carried fate) n c e = absurd (false≢true (sym c))
not_yet p (Settled why) n c e = absurd (false≢true (sym c))
not_yet p (AllDone shown) n c e = absurd (false≢true (sym c))

-- of what is stored, this is left
abbrev pub stored_by : (List ℕ → List ℕ) → Effect ActAnswer → Effect ActAnswer
stored_by f e = record { written = record e.written { blocks = map f e.written.blocks }; answer = e.answer }

module _ (m : Setting) (one two : Device) where
  -- a block with which both do the same

  out_effect : (r : Route) (w : Result (List ℕ) Check) (log : List (List ℕ)) → SameFor one two r → written_by r (from_adapter one r w) [] log ≡ written_by r (from_adapter two r w) [] log
  out_effect r (Ok carried) log e = ap (λ came. written_by r (at_device carried came) [] log) (e.stores carried)
  out_effect r (Err check) log e = refl

  over_effect : (r : Route) (w : Result (List ℕ) Check) (old : List ℕ) (log : List (List ℕ)) → SameFor one two r →
      stored_over (over m one).site r old (written_by r (from_adapter one r w) [] log) ≡ stored_over (over m two).site r old (written_by r (from_adapter two r w) [] log)
  over_effect r w old log e = ap (stored_by (one.leaves r old)) (out_effect r w log e) ∙ ap (λ (f : List ℕ → List ℕ). stored_by f (written_by r (from_adapter two r w) [] log)) (λ x frame. e.leaves old frame x)

  pub out_same : (r : Route) (frame : List ℕ) → SameFor one two r → SameAct (carry_out (over m one).site r frame) (carry_out (over m two).site r frame)
  out_same r frame e = record { state = λ s. state s (same s); answer = λ s. ap (λ (x : Effect ActAnswer). x.answer) (same s) } where
    same : (s : State) → effect (carry_out (over m one).site r frame) s ≡ effect (carry_out (over m two).site r frame) s
    same s = over_effect r (to_wire m.site.faults r (gather 0 frame s.bytes)) (get_or s.blocks (stored_cell m.site r) []) (get_or s.logs (own_cell m.site r) []) e

    state : (s : State) → effect (carry_out (over m one).site r frame) s ≡ effect (carry_out (over m two).site r frame) s → act (carry_out (over m one).site r frame) s ≡ act (carry_out (over m two).site r frame) s
    state s q = let a = carry_out (over m one).site r frame in same_cells _ _ _ _ _ _ _ _
        (ap (λ (x : Effect ActAnswer). scatter a.bytes.writes x.written.bytes s.bytes) q) (ap (λ (x : Effect ActAnswer). scatter a.blocks.writes x.written.blocks s.blocks) q)
        (ap (λ (x : Effect ActAnswer). scatter a.logs.writes x.written.logs s.logs) q) (ap (λ (x : Effect ActAnswer). scatter a.fates.writes x.written.fates s.fates) q)

  in_same : (r : Route) (to : List ℕ) (fate : ℕ) → SameFor one two r → SameAct (carry_in (over m one).site r to fate) (carry_in (over m two).site r to fate)
  in_same r to fate e = record { state = λ s. state s (same s); answer = λ s. ap (λ (x : Effect ActAnswer). x.answer) (same s) } where
    same : (s : State) → effect (carry_in (over m one).site r to fate) s ≡ effect (carry_in (over m two).site r to fate) s
    same s = ap (λ came. carried_in r (from_device m.site.faults r came) (length (get_or s.logs (own_cell m.site r) []))) (e.sends (get_or s.blocks (fetched_cell m.site r) []))

    state : (s : State) → effect (carry_in (over m one).site r to fate) s ≡ effect (carry_in (over m two).site r to fate) s → act (carry_in (over m one).site r to fate) s ≡ act (carry_in (over m two).site r to fate) s
    state s q = let a = carry_in (over m one).site r to fate in same_cells _ _ _ _ _ _ _ _
        (ap (λ (x : Effect ActAnswer). scatter a.bytes.writes x.written.bytes s.bytes) q) (ap (λ (x : Effect ActAnswer). scatter a.blocks.writes x.written.blocks s.blocks) q)
        (ap (λ (x : Effect ActAnswer). scatter a.logs.writes x.written.logs s.logs) q) (ap (λ (x : Effect ActAnswer). scatter a.fates.writes x.written.fates s.fates) q)

  -- what it takes for the moves of a step to stand for one another
  abbrev IsTold : (i k : ℕ) → Status → Type 0
  IsTold i k status = is_carried status ≡ true → (r : Route) → r.label ≡ record { op = i; k = k } → SameFor one two r

  same_label : (i k : ℕ) (b : Block) → (b.op ≡ i) × (b.k ≡ k) → ((r : Route) → r.label ≡ record { op = i; k = k } → SameFor one two r) → SameFor one two (route m b)
  same_label i k b e h = h (route m b) (ap (λ x. record { op = x; k = b.k }) e.0 ∙ ap (λ x. record { op = i; k = x }) e.1)

  chosen : (A : Type 0) (n limit : ℕ) (status : Status) → ((is_carried status ≡ false) → n ≤ limit) → (is_carried status ≡ true → A) → (n ≤ limit) ⊎ A
  chosen A n limit status f g = by (is_carried status) refl where
    by : (c : Bool) → is_carried status ≡ c → (n ≤ limit) ⊎ A
    by true e = inr (g e)
    by false e = inl (f e)

  step_pairs : (i k : ℕ) (own : List ℕ) (fate : ℕ) (step : Step) (status : Status) (here : List ActAnswer) → HasLabel i k step → IsTold i k status → length here ≡ done_by (parts_of (over m one) own fate step) status →
      Pairs (by_moves (over m one) own fate step).moves (by_moves (over m two) own fate step).moves here
  step_pairs i k own fate (Sets at values) status here l t e = same_pairs (by_moves (over m one) own fate (Sets at values)).moves here
  step_pairs i k own fate (Shows at) status here l t e = same_pairs (by_moves (over m one) own fate (Shows at)).moves here
  step_pairs i k own fate (Seals body tuple app rtag) status here l t e = same_pairs (by_moves (over m one) own fate (Seals body tuple app rtag)).moves here
  step_pairs i k own fate (Writes b app body) status here l t e = by m.mode.dix e where
    by : (dix : Bool) → length here ≡ done_by (write_parts (over m one) b app body own dix) status → Pairs (write_moves (over m one) b app body own dix) (write_moves (over m two) b app body own dix) here
    by true e =
        pairs_mid (make_tuple (route m b) app body own ∷ map_out (route m b) own ∷ []) (carry_out (over m one).site (route m b) (body ++ own)) (carry_out (over m two).site (route m b) (body ++ own)) (map_back (route m b) own ∷ []) here
        (record { one = λ y. refl; other = λ y. refl })
        (chosen (SameAct (carry_out (over m one).site (route m b) (body ++ own)) (carry_out (over m two).site (route m b) (body ++ own))) (length here) 2 status
        (λ c. not_yet (write_parts (over m one) b app body own true) status (length here) c e) (λ c. out_same (route m b) (body ++ own) (same_label i k b l (t c))))
    by false e =
        pairs_mid [] (carry_out (over m one).site (route m b) body) (carry_out (over m two).site (route m b) body) [] here (record { one = λ y. refl; other = λ y. refl })
        (chosen (SameAct (carry_out (over m one).site (route m b) body) (carry_out (over m two).site (route m b) body)) (length here) 0 status
        (λ c. not_yet (write_parts (over m one) b app body own false) status (length here) c e) (λ c. out_same (route m b) body (same_label i k b l (t c))))
  step_pairs i k own fate (WritesPi b frame) status here l t e =
      pairs_mid (map_out (route m b) (drop m.size frame) ∷ []) (carry_out (over m one).site (route m b) frame) (carry_out (over m two).site (route m b) frame) (map_back (route m b) (drop m.size frame) ∷ []) here (record { one = λ y. refl; other = λ y. refl })
      (chosen (SameAct (carry_out (over m one).site (route m b) frame) (carry_out (over m two).site (route m b) frame)) (length here) 1 status
      (λ c. not_yet (parts_of (over m one) own fate (WritesPi b frame)) status (length here) c e) (λ c. out_same (route m b) frame (same_label i k b l (t c))))
  step_pairs i k own fate (Reads b owner to) status here l t e =
      let at = lands_in owner m.mode.dix to own in
      pairs_mid [] (carry_in (over m one).site (route m b) at fate) (carry_in (over m two).site (route m b) at fate) (settle (route m b) owner at fate ∷ []) here (record { one = λ y. refl; other = λ y. refl })
      (chosen (SameAct (carry_in (over m one).site (route m b) at fate) (carry_in (over m two).site (route m b) at fate)) (length here) 0 status
      (λ c. not_yet (parts_of (over m one) own fate (Reads b owner to)) status (length here) c e) (λ c. in_same (route m b) at fate (same_label i k b l (t c))))
  step_pairs i k own fate (Alters dev lba change) status here l t e = same_pairs (by_moves (over m one) own fate (Alters dev lba change)).moves here

  step_stands : (own : List ℕ) (fate : ℕ) (step : Step) (status : Status) (here : List ActAnswer) → SlotStands (parts_of (over m one) own fate step) (by_moves (over m one) own fate step).join status here →
      SlotStands (parts_of (over m two) own fate step) (by_moves (over m two) own fate step).join status here
  step_stands own fate (Sets at values) status here s = record { count = s.count; sent = s.sent; tells = s.tells }
  step_stands own fate (Shows at) status here s = record { count = s.count; sent = s.sent; tells = s.tells }
  step_stands own fate (Seals body tuple app rtag) status here s = record { count = s.count; sent = s.sent; tells = s.tells }
  step_stands own fate (Writes b app body) status here s = by m.mode.dix s where
    by : (dix : Bool) → SlotStands (write_parts (over m one) b app body own dix) (λ answers. get_or answers (carried_by m.mode.dix) silent) status here → SlotStands (write_parts (over m two) b app body own dix) (λ answers. get_or answers (carried_by m.mode.dix) silent) status here
    by true s = record { count = s.count; sent = s.sent; tells = s.tells }
    by false s = record { count = s.count; sent = s.sent; tells = s.tells }
  step_stands own fate (WritesPi b frame) status here s = record { count = s.count; sent = s.sent; tells = s.tells }
  step_stands own fate (Reads b owner to) status here s = record { count = s.count; sent = s.sent; tells = s.tells }
  step_stands own fate (Alters dev lba change) status here s = record { count = s.count; sent = s.sent; tells = s.tells }

  steps_over : (i : ℕ) (op : Op) → steps_of (over m one) i op ≡ steps_of (over m two) i op
  steps_over i (Fill seg byte) = refl
  steps_over i (Put page off values) = refl
  steps_over i (Show seg) = refl
  steps_over i (Seal n body tuples app rtag) = refl
  steps_over i (Write v n body app) = refl
  steps_over i (Fetch v n body) = refl
  steps_over i (WritePi v n body tuples) = refl
  steps_over i (FetchPi v n body tuples) = refl
  steps_over i (Overwrite dev lba change) = refl
  steps_over i Wait = refl

  room_over : (op : Op) → room_of (over m one) op ≡ room_of (over m two) op
  room_over (Fill seg byte) = refl
  room_over (Put page off values) = refl
  room_over (Show seg) = refl
  room_over (Seal n body tuples app rtag) = refl
  room_over (Write v n body app) = refl
  room_over (Fetch v n body) = refl
  room_over (WritePi v n body tuples) = refl
  room_over (FetchPi v n body tuples) = refl
  room_over (Overwrite dev lba change) = refl
  room_over Wait = refl

  -- an op
  record StepsOver (from fate k : ℕ) (steps : List Step) (status : ℕ → Status) (done : Done) : Type 0 where
    stand : StandFrom (over m two) from fate k steps status done
    moves : Stand (all_moves (blocks_from (over m one) from fate k steps)) (all_moves (blocks_from (over m two) from fate k steps)) done
    size : length done ≡ length (all_moves (blocks_from (over m one) from fate k steps))

  steps_switch : (i from fate k : ℕ) (steps : List Step) (status : ℕ → Status) (done : Done) → Labelled i k steps → ((l : ℕ) → IsTold i l (status l)) → StandFrom (over m one) from fate k steps status done → StepsOver from fate k steps status done
  steps_switch i from fate k [] status done l t h = record { stand = h; moves = λ s. refl; size = ap length h }
  steps_switch i from fate k (step ∷ steps) status done l t h =
      let own = own_at from k in
      let a = by_moves (over m one) own (fate + k) step in
      let b = by_moves (over m two) own (fate + k) step in
      let stands = h.1.1.1.0 in
      let pairs = step_pairs i k own (fate + k) step (status k) h.0 l.0 (t k) stands.count in
      let rest = steps_switch i from fate (suc k) steps status h.1.0 l.1 t h.1.1.1.1 in
      let x = length-append (so_far a.moves h.0) h.1.0 in
      let y = length-append a.moves (all_moves (blocks_from (over m one) from fate (suc k) steps)) in
      let z = far_length a.moves h.0 in
      let w = rest.size in
      record {
        stand = (h.0, (h.1.0, (h.1.1.0 ∙ ap (λ d. d ++ h.1.0) (far_same a.moves b.moves h.0 pairs), (step_stands own (fate + k) step (status k) h.0 stands, rest.stand))));
        moves = λ s. subst (λ d. StandFor act tell conflict (a.moves ++ all_moves (blocks_from (over m one) from fate (suc k) steps)) (b.moves ++ all_moves (blocks_from (over m two) from fate (suc k) steps)) d s) (sym h.1.1.0)
            (stand_pairs a.moves b.moves (all_moves (blocks_from (over m one) from fate (suc k) steps)) (all_moves (blocks_from (over m two) from fate (suc k) steps)) h.0 h.1.0 pairs rest.moves s);
        size = ap length h.1.1.0 ∙ omega (arith, x, y, z, w);
      }

  record OpsOver (from fate i : ℕ) (ops : List Op) (status : ℕ → ℕ → Status) (done : Done) : Type 0 where
    stand : AllStand (over m two) from fate i ops status done
    moves : Stand (moves_from (over m one) from fate i ops) (moves_from (over m two) from fate i ops) done

  ops_switch : (from fate i : ℕ) (ops : List Op) (status : ℕ → ℕ → Status) (done : Done) → ((j l : ℕ) → IsTold j l (status j l)) → AllStand (over m one) from fate i ops status done → OpsOver from fate i ops status done
  ops_switch from fate i [] status done t h = record { stand = h; moves = λ s. refl }
  ops_switch from fate i (op ∷ ops) status done t h =
      let same = steps_over i op in
      let labels = subst (Labelled i 0) same (op_labelled (over m one) i op) in
      let mine = steps_switch i from fate 0 (steps_of (over m two) i op) (status i) h.0 labels (t i) (subst (λ steps. StandFrom (over m one) from fate 0 steps (status i) h.0) same h.1.1.1.0) in
      let fate' = fate + fates_of op in
      let rest = ops_switch (from + room_of (over m two) op) fate' (suc i) ops status h.1.0 t (subst (λ r. AllStand (over m one) (from + r) fate' (suc i) ops status h.1.0) (room_over op) h.1.1.1.1) in
      let first = all_moves (blocks_from (over m one) from fate 0 (steps_of (over m two) i op)) in
      let second = all_moves (blocks_of (over m two) from fate i op) in
      let joined = λ (s : State). stand_both first second (moves_from (over m one) (from + room_of (over m two) op) fate' (suc i) ops) (moves_from (over m two) (from + room_of (over m two) op) fate' (suc i) ops) h.0 h.1.0 s mine.size (mine.moves s) rest.moves in
      record {
        stand = (h.0, (h.1.0, (h.1.1.0, (mine.stand, rest.stand))));
        moves = λ s. subst (λ d. StandFor act tell conflict (moves_from (over m one) from fate i (op ∷ ops)) (moves_from (over m two) from fate i (op ∷ ops)) d s) (sym h.1.1.0)
            (subst (λ r. StandFor act tell conflict (all_moves (blocks_of (over m one) from fate i op) ++ moves_from (over m one) (from + r) fate' (suc i) ops) (moves_from (over m two) from fate i (op ∷ ops)) (h.0 ++ h.1.0) s) (sym (room_over op))
            (subst (λ steps. StandFor act tell conflict (all_moves (blocks_from (over m one) from fate 0 steps) ++ moves_from (over m one) (from + room_of (over m two) op) fate' (suc i) ops) (moves_from (over m two) from fate i (op ∷ ops)) (h.0 ++ h.1.0) s) (sym same) (joined s)));
      }

  pub switch : (n : ℕ) (ops : List Op) (opening now : State) (status : ℕ → ℕ → Status) (es : List Sent) → ((j l : ℕ) → IsTold j l (status j l)) → Follows (over m one) n ops opening status now es → Follows (over m two) n ops opening status now es
  switch n ops opening now status es t h =
      let o = ops_switch n 0 1 ops status h.done t h.stand in
      record {
        done = h.done;
        stand = o.stand;
        serial = stand_for act tell conflict (script_moves (over m one) n ops) (script_moves (over m two) n ops) opening h.done now (o.moves opening) h.serial;
        logs = h.logs;
        room = h.room;
        sent = h.sent;
      }
