-- Once all has ended.
use Rattle.std.proofs.Common.{◌≡◌, ◌<◌, ◌≤◌, ℕ, suc, ◌+◌, Bool, true, false, ◌||◌, eqb, if◌then◌else◌, List, [], ◌∷◌, length, map, take, get_or, Option, Some, None, refl, sym, ap, subst, ◌∙◌, arith}
use Rattle.std.specs.Prelude.{Result, IfOk, IfSome}
use Rattle.std.proofs.lemmas.Bool.{eq-eqb, eqb-true, false≢true}
use Rattle.block_path.specs.Passed.{stored_size}
use Rattle.bio_core.specs.declared.fate.Why.{Why}
use Rattle.page_pool.specs.Cells.{gather}
use Rattle.range_gate.specs.Cells.{cells_of}
use Rattle.block_path.specs.Acts.{State, act, tell}
use Rattle.block_path.specs.Blocks.{Sent, stored_cell}
use Rattle.block_path.specs.Moves.{hidden}
use Rattle.block_path.specs.Routes.{wire_size}
use Rattle.block_path.specs.Serial.{plain, plain_tells}
use Rattle.block_path.proofs.InTurn.{plain_append}
use Rattle.run_laws.specs.Passed.{steps_from, act_of, bad_from, replies_from, reply_of, walk_from, whole_or_bad, Setting, block_of, route, Alters, Reads, Seals, Sets, Shows, Step, Writes, WritesPi, steps_of, Op, Fetch, FetchPi, Fill, Overwrite, Put, Seal, Show, Wait, Write, WritePi, BadBlock, Reply, Bad, Medium as MediumReply, Shown, Silent, Whole}
use Rattle.run_laws.specs.FallingReads.{falling_replies}
use Rattle.run_laws.specs.StoreFaults.{falling_walk, may_fall}
use Rattle.run_laws.specs.BoundRun.{AllBound, AllSuit, IsBound, IsBoundRun}
use Rattle.stack_walk_laws.specs.Finished.{AllEnded, HasEnded, HaveEnded, IsDone, IsSettled, answer_of, answers_of, replies_of}
use Rattle.stack_walk_laws.specs.Slots.{Status}
use Rattle.stack_walk_laws.proofs.Ends.{ends_as_walk, one as one_more}
use Rattle.stack_walk_laws.specs.Takes.{AllTakeAny, OpTakesAny, TakesAny}
use Rattle.stack_walk_laws.specs.AtTheEnd.{EndsAsFalling}
use Rattle.stack_walk_laws.specs.Falls.{Falls, falling, forgive, forgiven, is_write, leaves_or, left_of, of_blocks, over_falls, sends_or, stores_or, writes_of}
use Rattle.stack_walk_laws.specs.FollowsFalling.{AllFallen, LeavesSized, FollowsFalling, HasFallen}
use Rattle.stack_walk_laws.proofs.Forgiving.{AllOf, IsOf, op_of}
use Rattle.stack_walk_laws.proofs.OverDevice.{same_rooms, same_steps}
use Rattle.stack_walk_laws.proofs.Switching.{HasLabel, Labelled, op_labelled}
use Rattle.stack_walk_laws.proofs.WalksAlike.{Forgives, Sees, step_alike}

-- a list of bad blocks has one only where there is one

abbrev has_k : ℕ → List BadBlock → Bool
has_k j [] = false
has_k j (x ∷ bad) = eqb x.k j || has_k j bad

later : (j k : ℕ) → j < k → (xs : List (Option Why)) → has_k j (bad_from k xs) ≡ false
later j k l [] = refl
later j k l (None ∷ xs) = later j (suc k) (omega (arith, l)) xs
later j k l (Some why ∷ xs) = ap (λ c. c || has_k j (bad_from (suc k) xs)) (by (eqb k j) refl) ∙ later j (suc k) (omega (arith, l)) xs where
  by : (c : Bool) → eqb k j ≡ c → eqb k j ≡ false
  by true q = absurd (let e = eqb-true k j q in omega (arith, e, l))
  by false q = q

abbrev the_first : Why → List BadBlock → Why
the_first d [] = d
the_first d (x ∷ bad) = x.why

abbrev the_rest : List BadBlock → List BadBlock
the_rest [] = []
the_rest (x ∷ bad) = bad

bad_once : (k : ℕ) (xs ys : List (Option Why)) → length xs ≡ length ys → bad_from k xs ≡ bad_from k ys → xs ≡ ys
bad_once k [] [] l e = refl
bad_once k [] (y ∷ ys) l e = absurd (omega (arith, l))
bad_once k (x ∷ xs) [] l e = absurd (omega (arith, l))
bad_once k (None ∷ xs) (None ∷ ys) l e = ap (λ zs. None ∷ zs) (bad_once (suc k) xs ys (omega (arith, l)) e)
bad_once k (None ∷ xs) (Some y ∷ ys) l e = absurd (false≢true (sym (later k (suc k) (omega arith) xs) ∙ ap (has_k k) e ∙ ap (λ c. c || has_k k (bad_from (suc k) ys)) (eq-eqb k k refl)))
bad_once k (Some x ∷ xs) (None ∷ ys) l e = absurd (false≢true (sym (later k (suc k) (omega arith) ys) ∙ ap (has_k k) (sym e) ∙ ap (λ c. c || has_k k (bad_from (suc k) xs)) (eq-eqb k k refl)))
bad_once k (Some x ∷ xs) (Some y ∷ ys) l e = one_more _ _ _ _ (ap (λ bad. Some (the_first x bad)) e) (bad_once (suc k) xs ys (omega (arith, l)) (ap the_rest e))

abbrev bad_in : Reply → List BadBlock
bad_in Silent = []
bad_in Whole = []
bad_in (Bad bad) = bad
bad_in (Shown bytes) = []
bad_in MediumReply = []

whole_bad : (bad : List BadBlock) → bad_in (whole_or_bad bad) ≡ bad
whole_bad [] = refl
whole_bad (x ∷ bad) = refl

whys_once : (xs ys : List (Option Why)) → length xs ≡ length ys → whole_or_bad (bad_from 0 xs) ≡ whole_or_bad (bad_from 0 ys) → xs ≡ ys
whys_once xs ys l e = bad_once 0 xs ys l (sym (whole_bad (bad_from 0 xs)) ∙ ap bad_in e ∙ whole_bad (bad_from 0 ys))

-- what is told over the device has ended too

settled_still : (o : Option (List ℕ)) (status : Status) → IsSettled status → IsSettled (forgive o status)
settled_still None status h = h
settled_still (Some left) status h = (None, ap (forgive (Some left)) h.1)

done_still : (o : Option (List ℕ)) (status : Status) → IsDone status → IsDone (forgive o status)
done_still None status h = h
done_still (Some left) status h = (h.0, ap (forgive (Some left)) h.1)

ended_still : (o : Option (List ℕ)) (step : Step) (status : Status) → HasEnded step status → HasEnded step (forgive o status)
ended_still o (Sets at values) status h = done_still o status h
ended_still o (Shows at) status h = done_still o status h
ended_still o (Seals body tuple app rtag) status h = done_still o status h
ended_still o (Writes b app body) status h = settled_still o status h
ended_still o (WritesPi b frame) status h = settled_still o status h
ended_still o (Reads b owner to) status h = settled_still o status h
ended_still o (Alters dev lba change) status h = done_still o status h

steps_ended : (k : ℕ) (steps : List Step) (o : ℕ → Option (List ℕ)) (status : ℕ → Status) → HaveEnded k steps status → HaveEnded k steps (λ l. forgive (o l) (status l))
steps_ended k [] o status h = tt
steps_ended k (step ∷ steps) o status h = (ended_still (o k) step (status k) h.0, steps_ended (suc k) steps o status h.1)

-- a setting whose store calls fail is bound

module _ (m : Setting) (falls : Falls) (sized : LeavesSized (stored_size m.ty m.size) falls) (fine : ℕ → List ℕ → Bool) where
  suit_over : (i v n : ℕ) → TakesAny m fine i v n → AllSuit m fine i v n → AllSuit (over_falls m falls) fine i v n
  suit_over i v n takes h k l =
      let b = block_of i v k in
      let label = (route m b).label in
      let old = h k l in
      record {
        stores = λ frame e. stores (falls label) (sized label) (m.site.device.stores (route m b) frame) (old.stores frame e);
        leaves = λ before frame e f. leaves (falls label) frame (m.site.device.leaves (route m b) before frame) f (old.leaves before frame e f);
        sends = λ stored e. sends (falls label) (m.site.device.sends (route m b) stored) (old.sends stored e);
      }
    where
      stores : (o : Option (List ℕ)) → IfSome o (λ left. length left ≡ stored_size m.ty m.size) → (came : Result (List ℕ) Why) → IfOk came (λ stored. fine (stored_cell m.site (route m (block_of i v k))) stored ≡ true) →
          IfOk (stores_or o came) (λ stored. fine (stored_cell m.site (route m (block_of i v k))) stored ≡ true)
      stores None s came c = c
      stores (Some left) s came c = takes k l left s

      leaves : (o : Option (List ℕ)) (frame kept : List ℕ) → fine (stored_cell m.site (route m (block_of i v k))) frame ≡ true → fine (stored_cell m.site (route m (block_of i v k))) kept ≡ true →
          fine (stored_cell m.site (route m (block_of i v k))) (leaves_or o kept frame) ≡ true
      leaves None frame kept f c = c
      leaves (Some left) frame kept f c = f

      sends : (o : Option (List ℕ)) (came : Result (List ℕ) Why) → IfOk came (λ frame. length frame ≡ wire_size (route m (block_of i v k))) →
          IfOk (sends_or o came) (λ frame. length frame ≡ wire_size (route m (block_of i v k)))
      sends None came c = c
      sends (Some left) came c = tt

  op_over : (bytes i : ℕ) (op : Op) → OpTakesAny m fine i op → IsBound m fine bytes i op → IsBound (over_falls m falls) fine bytes i op
  op_over bytes i (Fill seg byte) t h = tt
  op_over bytes i (Put page off values) t h = tt
  op_over bytes i (Show seg) t h = h
  op_over bytes i (Seal n body tuples app rtag) t h = h
  op_over bytes i (Write v n body app) t h = (h.0, (h.1.0, suit_over i v n t h.1.1))
  op_over bytes i (Fetch v n body) t h = (h.0, (h.1.0, (h.1.1.0, suit_over i v n t h.1.1.1)))
  op_over bytes i (WritePi v n body tuples) t h = (h.0, (h.1.0, (h.1.1.0, (h.1.1.1.0, (h.1.1.1.1.0, suit_over i v n t h.1.1.1.1.1)))))
  op_over bytes i (FetchPi v n body tuples) t h = (h.0, (h.1.0, (h.1.1.0, (h.1.1.1.0, (h.1.1.1.1.0, suit_over i v n t h.1.1.1.1.1)))))
  op_over bytes i (Overwrite dev lba change) t h = h
  op_over bytes i Wait t h = tt

  all_over : (bytes i : ℕ) (ops : List Op) → AllTakeAny m fine i ops → AllBound m fine bytes i ops → AllBound (over_falls m falls) fine bytes i ops
  all_over bytes i [] t h = tt
  all_over bytes i (op ∷ ops) t h = (op_over bytes i op t.0 h.0, all_over bytes (suc i) ops t.1 h.1)

  bound_over : (n : ℕ) (ops : List Op) (opening : State) → AllTakeAny m fine 1 ops → IsBoundRun m fine n ops opening → IsBoundRun (over_falls m falls) fine n ops opening
  bound_over n ops opening t h = record {
    bound = all_over n 1 ops t h.bound;
    room = subst (λ r. n + r ≤ length opening.bytes) (same_rooms m (falling falls m.site.device) ops) h.room;
    found = h.found;
    all_fine = h.all_fine;
  }

-- the two walks

module _ (m : Setting) (falls : Falls) where
  abbrev over : Setting
  over = over_falls m falls

  same : (i : ℕ) (op : Op) → steps_of m i op ≡ steps_of over i op
  same i op = same_steps m (falling falls m.site.device) i op

  all_ended : (script : List Op) (i : ℕ) (ops : List Op) (status : ℕ → ℕ → Status) → AllEnded m i ops status → AllEnded over i ops (forgiven script falls status)
  all_ended script i [] status h = tt
  all_ended script i (op ∷ ops) status h =
      (subst (λ steps. HaveEnded 0 steps (forgiven script falls status i)) (same i op) (steps_ended 0 (steps_of m i op) (left_of script falls i) (status i) h.0), all_ended script (suc i) ops status h.1)

  steps_alike : (steps : List Step) (s t : State) → Sees s t → Sees (plain act (map (act_of over) steps) s) (falling_walk m (of_blocks falls) steps t)
  steps_alike [] s t h = h
  steps_alike (step ∷ steps) s t h = steps_alike steps (act (act_of over step) s) (act (may_fall m (of_blocks falls) step) t) (step_alike m falls step s t h).sees

  walks_alike : (i : ℕ) (ops : List Op) (s t : State) → Sees s t → Sees (walk_from over i ops s) (falling_walk m (of_blocks falls) (steps_from m i ops) t)
  walks_alike i [] s t h = h
  walks_alike i (op ∷ ops) s t h =
      let steps = steps_of m i op in
      let next = falling_walk m (of_blocks falls) steps t in
      let rest = walks_alike (suc i) ops (plain act (map (act_of over) steps) s) next (steps_alike steps s t h) in
      subst (λ u. Sees (walk_from over i (op ∷ ops) s) u) (sym (plain_append (λ step u. act (may_fall m (of_blocks falls) step) u) steps (steps_from m (suc i) ops) t))
      (subst (λ xs. Sees (walk_from over (suc i) ops (plain act (map (act_of over) xs) s)) (falling_walk m (of_blocks falls) (steps_from m (suc i) ops) next)) (same i op) rest)

  -- what is listed

  left_none : (script : List Op) (i k : ℕ) → falls (record { op = i; k = k }) ≡ None → left_of script falls i k ≡ None
  left_none script i k e = ap (λ (o : Option (List ℕ)). if writes_of script i then o else None) e ∙ by (writes_of script i) None where
    by : (c : Bool) (o : Option (List ℕ)) → (if c then o else o) ≡ o
    by true o = refl
    by false o = refl

  done_why : (status : Status) → IsDone status → (answer_of status).why ≡ None
  done_why status h = ap (λ s. (answer_of s).why) h.1

  write_why : (script : List Op) (i k : ℕ) (status : Status) (there truth : Option Why) → writes_of script i ≡ true → IsSettled status → IfSome (falls (record { op = i; k = k })) (λ left. HasFallen status) →
      Forgives (falls (record { op = i; k = k })) there truth → (answer_of (forgive (left_of script falls i k) status)).why ≡ there → (answer_of status).why ≡ truth
  write_why script i k status there truth w ended fallen tells e = by (falls (record { op = i; k = k })) refl fallen tells where
    by : (o : Option (List ℕ)) → falls (record { op = i; k = k }) ≡ o → IfSome o (λ left. HasFallen status) → Forgives o there truth → (answer_of status).why ≡ truth
    by None q f t = ap (λ o. (answer_of (forgive o status)).why) (sym (left_none script i k q)) ∙ e ∙ t
    by (Some left) q f t =
        let is_left : left_of script falls i k ≡ Some left = ap (λ c. if c then falls (record { op = i; k = k }) else None) w ∙ q in
        let none : there ≡ None = sym e ∙ ap (λ o. (answer_of (forgive o status)).why) is_left ∙ ap (λ s. (answer_of (forgive (Some left) s)).why) ended.1 in
        ap (λ s. (answer_of s).why) ended.1 ∙ subst HasFallen ended.1 f ∙ sym (t none)

  step_why : (script : List Op) (i k : ℕ) (status : ℕ → ℕ → Status) (step : Step) (s t : State) → HasLabel i k step → IsOf (writes_of script i) step → HasEnded step (status i k) → AllFallen falls status → Sees s t →
      (answer_of (forgiven script falls status i k)).why ≡ (tell (act_of over step) s).why → (answer_of (status i k)).why ≡ (tell (may_fall m (of_blocks falls) step) t).why
  step_why script i k status (Sets at values) s t l w h f g e = done_why (status i k) h
  step_why script i k status (Shows at) s t l w h f g e = done_why (status i k) h
  step_why script i k status (Seals body tuple app rtag) s t l w h f g e = done_why (status i k) h
  step_why script i k status (Writes b app body) s t l w h f g e =
      let there = (tell (act_of over (Writes b app body)) s).why in
      let truth = (tell (may_fall m (of_blocks falls) (Writes b app body)) t).why in
      write_why script i k (status i k) there truth w h (f i k)
      (subst (λ x. Forgives (falls (record { op = i; k = x })) there truth) l.1 (subst (λ x. Forgives (falls (record { op = x; k = b.k })) there truth) l.0 (step_alike m falls (Writes b app body) s t g).tells)) e
  step_why script i k status (WritesPi b frame) s t l w h f g e =
      let there = (tell (act_of over (WritesPi b frame)) s).why in
      let truth = (tell (may_fall m (of_blocks falls) (WritesPi b frame)) t).why in
      write_why script i k (status i k) there truth w h (f i k)
      (subst (λ x. Forgives (falls (record { op = i; k = x })) there truth) l.1 (subst (λ x. Forgives (falls (record { op = x; k = b.k })) there truth) l.0 (step_alike m falls (WritesPi b frame) s t g).tells)) e
  step_why script i k status (Reads b owner to) s t l w h f g e =
      ap (λ o. (answer_of (forgive o (status i k))).why) (sym (ap (λ c. if c then falls (record { op = i; k = k }) else None) w)) ∙ e ∙ (step_alike m falls (Reads b owner to) s t g).tells
  step_why script i k status (Alters dev lba change) s t l w h f g e = done_why (status i k) h

  whys_alike : (script : List Op) (i k : ℕ) (status : ℕ → ℕ → Status) (steps : List Step) (s t : State) → Labelled i k steps → AllOf (writes_of script i) steps → HaveEnded k steps (status i) → AllFallen falls status → Sees s t →
      map (λ a. a.why) (answers_of k steps (forgiven script falls status i)) ≡ map (λ a. a.why) (plain_tells act tell (map (act_of over) steps) s) →
      map (λ a. a.why) (answers_of k steps (status i)) ≡ map (λ a. a.why) (plain_tells act tell (map (may_fall m (of_blocks falls)) steps) t)
  whys_alike script i k status [] s t l w h f g e = refl
  whys_alike script i k status (step ∷ steps) s t l w h f g e =
      one_more _ _ _ _ (step_why script i k status step s t l.0 w.0 h.0 f g (ap (first None) e))
      (whys_alike script i (suc k) status steps (act (act_of over step) s) (act (may_fall m (of_blocks falls) step) t) l.1 w.1 h.1 f (step_alike m falls step s t g).sees (ap others e))
    where
      first : Option Why → List (Option Why) → Option Why
      first d [] = d
      first d (x ∷ xs) = x

      others : List (Option Why) → List (Option Why)
      others [] = []
      others (x ∷ xs) = xs

  many_answers : (k : ℕ) (steps : List Step) (status : ℕ → Status) → length (map (λ a. a.why) (answers_of k steps status)) ≡ length steps
  many_answers k [] status = refl
  many_answers k (step ∷ steps) status = ap suc (many_answers (suc k) steps status)

  many_tells : (steps : List Step) (s : State) → length (map (λ a. a.why) (plain_tells act tell (map (act_of over) steps) s)) ≡ length steps
  many_tells [] s = refl
  many_tells (step ∷ steps) s = ap suc (many_tells steps (act (act_of over step) s))

  request_alike : (script : List Op) (i : ℕ) (op : Op) (status : ℕ → ℕ → Status) (s t : State) → let steps = steps_of m i op in writes_of script i ≡ is_write op → HaveEnded 0 steps (status i) → AllFallen falls status → Sees s t →
      whole_or_bad (bad_from 0 (map (λ a. a.why) (answers_of 0 steps (forgiven script falls status i)))) ≡ whole_or_bad (bad_from 0 (map (λ a. a.why) (plain_tells act tell (map (act_of over) steps) s))) →
      whole_or_bad (bad_from 0 (map (λ a. a.why) (answers_of 0 steps (status i)))) ≡ whole_or_bad (bad_from 0 (map (λ a. a.why) (plain_tells act tell (map (may_fall m (of_blocks falls)) steps) t)))
  request_alike script i op status s t w h f g e =
      let steps = steps_of m i op in
      let there = whys_once (map (λ a. a.why) (answers_of 0 steps (forgiven script falls status i))) (map (λ a. a.why) (plain_tells act tell (map (act_of over) steps) s)) (many_answers 0 steps (forgiven script falls status i) ∙ sym (many_tells steps s)) e in
      ap (λ whys. whole_or_bad (bad_from 0 whys)) (whys_alike script i 0 status steps s t (op_labelled m i op) (subst (λ c. AllOf c steps) (sym w) (op_of m i op)) h f g there)

  reply_alike : (script : List Op) (i : ℕ) (op : Op) (status : ℕ → ℕ → Status) (s t : State) → let steps = steps_of m i op in writes_of script i ≡ is_write op → HaveEnded 0 steps (status i) → AllFallen falls status → Sees s t →
      reply_of (m.fails i) op (answers_of 0 steps (forgiven script falls status i)) ≡ reply_of (m.fails i) op (plain_tells act tell (map (act_of over) steps) s) →
      reply_of (m.fails i) op (answers_of 0 steps (status i)) ≡ reply_of (m.fails i) op (plain_tells act tell (map (may_fall m (of_blocks falls)) steps) t)
  reply_alike script i (Fill seg byte) status s t w h f g e = refl
  reply_alike script i (Put page off values) status s t w h f g e = refl
  reply_alike script i (Show seg) status s t w h f g e = ap Shown (shown (left_of script falls i 0) (status i 0) h.0) ∙ e ∙ ap (λ bytes. Shown (gather 0 (cells_of (seg ∷ [])) bytes)) g.bytes where
    shown : (o : Option (List ℕ)) (status : Status) → IsDone status → (answer_of status).shown ≡ (answer_of (forgive o status)).shown
    shown None status d = refl
    shown (Some left) status d = ap (λ x. (answer_of x).shown) d.1 ∙ sym (ap (λ x. (answer_of (forgive (Some left) x)).shown) d.1)
  reply_alike script i (Seal n body tuples app rtag) status s t w h f g e = refl
  reply_alike script i (Write v n body app) status s t w h f g e = request_alike script i (Write v n body app) status s t w h f g e
  reply_alike script i (Fetch v n body) status s t w h f g e = request_alike script i (Fetch v n body) status s t w h f g e
  reply_alike script i (WritePi v n body tuples) status s t w h f g e = request_alike script i (WritePi v n body tuples) status s t w h f g e
  reply_alike script i (FetchPi v n body tuples) status s t w h f g e = request_alike script i (FetchPi v n body tuples) status s t w h f g e
  reply_alike script i (Overwrite dev lba change) status s t w h f g e = refl
  reply_alike script i Wait status s t w h f g e = refl

  abbrev first_reply : List Reply → Reply
  first_reply [] = Silent
  first_reply (r ∷ rs) = r

  abbrev other_replies : List Reply → List Reply
  other_replies [] = []
  other_replies (r ∷ rs) = rs

  replies_alike : (script : List Op) (i : ℕ) (ops : List Op) (status : ℕ → ℕ → Status) (s t : State) → ((j : ℕ) → writes_of script (i + j) ≡ is_write (get_or ops j Wait)) → AllEnded m i ops status → AllFallen falls status → Sees s t →
      replies_of over i ops (forgiven script falls status) ≡ replies_from over i ops s → replies_of m i ops status ≡ falling_replies m (of_blocks falls) i ops t
  replies_alike script i [] status s t w h f g e = refl
  replies_alike script i (op ∷ ops) status s t w h f g e =
      let steps = steps_of m i op in
      let there = subst (λ xs. reply_of (m.fails i) op (answers_of 0 xs (forgiven script falls status i)) ≡ reply_of (m.fails i) op (plain_tells act tell (map (act_of over) xs) s)) (sym (same i op)) (ap first_reply e) in
      let kind = ap (writes_of script) (let q : i ≡ i + 0 = omega arith in q) ∙ w 0 in
      one_more _ _ _ _ (reply_alike script i op status s t kind h.0 f g there)
      (replies_alike script (suc i) ops status (plain act (map (act_of over) steps) s) (falling_walk m (of_blocks falls) steps t)
      (λ j. ap (writes_of script) (let q : suc i + j ≡ i + suc j = omega arith in q) ∙ w (suc j)) h.1 f (steps_alike steps s t g)
      (subst (λ xs. replies_of over (suc i) ops (forgiven script falls status) ≡ replies_from over (suc i) ops (plain act (map (act_of over) xs) s)) (sym (same i op)) (ap other_replies e)))

pub ends_as_falling : (m : Setting) (fine : ℕ → List ℕ → Bool) (n : ℕ) (ops : List Op) (opening : State) (status : ℕ → ℕ → Status) (pages : List ℕ) (blocks : List (List ℕ)) (es : List Sent) → IsBoundRun m fine n ops opening →
    AllTakeAny m fine 1 ops → AllEnded m 1 ops status → FollowsFalling m n ops opening status pages blocks es → EndsAsFalling m n ops opening (take n pages) blocks (replies_of m 1 ops status) es
ends_as_falling m fine n ops opening status pages blocks es run takes ended h =
    let over = over_falls m h.falls in
    let bound = bound_over m h.falls h.sized fine n ops opening takes run in
    let walk = ends_as_walk over fine n ops opening h.after (forgiven ops h.falls status) h.told bound (all_ended m h.falls ops 1 ops status ended) h.follows in
    let start = hidden n opening in
    let sees = walks_alike m h.falls 1 ops start start (record { bytes = refl; blocks = refl }) in
    record {
      falls = h.falls;
      pages_are = ap (take n) (sym h.bytes) ∙ ap (λ (s : State). s.bytes) walk.cells ∙ sees.bytes;
      blocks_are = sym h.blocks_are ∙ ap (λ (s : State). s.blocks) walk.cells ∙ sees.blocks;
      replies_are = replies_alike m h.falls ops 1 ops status start start (λ j. ap (writes_of ops) (let q : 1 + j ≡ suc j = omega arith in q)) ended h.fallen (record { bytes = refl; blocks = refl }) walk.replies;
      told = h.told;
      recorded = walk.recorded;
      on_record = h.on_record;
    }
