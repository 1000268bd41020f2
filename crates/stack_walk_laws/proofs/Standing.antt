-- The next moves of a block, among all moves of a script.
use Rattle.std.proofs.Common.{◌≡◌, ◌≤◌, ◌⊎◌, inl, inr, ℕ, suc, ◌+◌, Bool, true, false, List, [], ◌∷◌, ◌++◌, length, refl, sym, ap, subst, ◌∙◌, arith, length-append}
use Rattle.std.proofs.lemmas.Bool.{false≢true}
use Rattle.block_path.specs.Acts.{conflict}
use Rattle.block_path.specs.Blocks.{ActAnswer}
use Rattle.run_laws.specs.Passed.{Setting, Alters, Reads, Seals, Sets, Shows, Step, Writes, WritesPi, steps_of, Op}
use Rattle.run_laws.specs.BoundRun.{fates, rooms}
use Rattle.run_laws.specs.OpsApart.{IsPlaced, NoneMeet, OneCellEach, OpsConflict}
use Rattle.run_laws.specs.ScriptMoves.{all_moves, blocks_from, blocks_of, by_moves, fates_of, moves_from, own_at, room_of, write_moves}
use Rattle.run_laws.proofs.Meeting.{ops_apart}
use Rattle.stack_walk_laws.specs.Following.{AllStand, StandFrom}
use Rattle.stack_walk_laws.specs.Gate.{AllPlaced, AreOver, LetsIn, is_over}
use Rattle.stack_walk_laws.specs.Slots.{Admitted, Carried, Cut, Done as AllDone, StepParts, Settled, SlotStands, Status, Waits, before_carrying, done_by, moves_in, parts_of, so_far, write_parts}
use Rattle.stack_walk_laws.proofs.Runs.{AllClear, Done, Moves, Turn, behind, clear_join, clear_nothing, clear_of_all, clear_over, far_length, in_front, midst_apart}

pub parts_are : (m : Setting) (own : List ℕ) (fate : ℕ) (step : Step) → (by_moves m own fate step).moves ≡ moves_in (parts_of m own fate step)
parts_are m own fate (Sets at values) = refl
parts_are m own fate (Shows at) = refl
parts_are m own fate (Seals body tuple app rtag) = refl
parts_are m own fate (Writes b app body) = by m.mode.dix where
  by : (dix : Bool) → write_moves m b app body own dix ≡ moves_in (write_parts m b app body own dix)
  by true = refl
  by false = refl
parts_are m own fate (WritesPi b frame) = refl
parts_are m own fate (Reads b owner to) = refl
parts_are m own fate (Alters dev lba change) = refl

pub moves_length : (p : StepParts) → length (moves_in p) ≡ suc (before_carrying p + length p.settled)
moves_length p =
    let x = length-append p.made (p.cut ++ (p.carrying ∷ p.settled)) in
    let y = length-append p.cut (p.carrying ∷ p.settled) in
    omega (arith, x, y)

-- the cells of what is over

over_count : (p : StepParts) (status : Status) (n : ℕ) → is_over status ≡ true → n ≡ done_by p status → n ≡ length (moves_in p)
over_count p Waits n o e = absurd (false≢true o)
over_count p Admitted n o e = absurd (false≢true o)
over_count p Cut n o e = absurd (false≢true o)
over_count p (Carried fate) n o e = absurd (false≢true o)
over_count p (Settled why) n o e = e ∙ sym (moves_length p)
over_count p (AllDone shown) n o e = e ∙ sym (moves_length p)

module _ (m : Setting) where
  pub steps_length : (from fate k : ℕ) (steps : List Step) (status : ℕ → Status) (done : Done) → StandFrom m from fate k steps status done → length done ≡ length (all_moves (blocks_from m from fate k steps))
  steps_length from fate k [] status done h = ap length h
  steps_length from fate k (step ∷ steps) status done h =
      let b = by_moves m (own_at from k) (fate + k) step in
      let rest = steps_length from fate (suc k) steps status h.1.0 h.1.1.1.1 in
      let here = far_length b.moves h.0 in
      let x = length-append (so_far b.moves h.0) h.1.0 in
      let y = length-append b.moves (all_moves (blocks_from m from fate (suc k) steps)) in
      ap length h.1.1.0 ∙ omega (arith, rest, here, x, y)

  steps_over : (from fate k : ℕ) (steps : List Step) (status : ℕ → Status) (done : Done) (run : Moves) → AreOver k steps status → StandFrom m from fate k steps status done → AllClear run (all_moves (blocks_from m from fate k steps)) done
  steps_over from fate k [] status done run o h = subst (AllClear run []) (sym h) (clear_nothing run)
  steps_over from fate k (step ∷ steps) status done run o h =
      let b = by_moves m (own_at from k) (fate + k) step in
      let p = parts_of m (own_at from k) (fate + k) step in
      let count = over_count p (status k) (length h.0) o.0 h.1.1.1.0.count ∙ ap length (sym (parts_are m (own_at from k) (fate + k) step)) in
      subst (AllClear run (b.moves ++ all_moves (blocks_from m from fate (suc k) steps))) (sym h.1.1.0)
      (clear_join run b.moves (all_moves (blocks_from m from fate (suc k) steps)) (so_far b.moves h.0) h.1.0 (far_length b.moves h.0) (clear_over run b.moves h.0 count)
      (steps_over from fate (suc k) steps status h.1.0 run o.1 h.1.1.1.1))

  -- statuses that are the same from a block on, and from an op on

  pub steps_same : (from fate k : ℕ) (steps : List Step) (old new : ℕ → Status) (done : Done) → ((l : ℕ) → k ≤ l → new l ≡ old l) → StandFrom m from fate k steps old done → StandFrom m from fate k steps new done
  steps_same from fate k [] old new done e h = h
  steps_same from fate k (step ∷ steps) old new done e h =
      let b = by_moves m (own_at from k) (fate + k) step in
      let p = parts_of m (own_at from k) (fate + k) step in
      (h.0, (h.1.0, (h.1.1.0, (subst (λ s. SlotStands p b.join s h.0) (sym (e k (omega arith))) h.1.1.1.0, steps_same from fate (suc k) steps old new h.1.0 (λ l u. e l (omega (arith, u))) h.1.1.1.1))))

  pub ops_same : (from fate i : ℕ) (ops : List Op) (old new : ℕ → ℕ → Status) (done : Done) → ((j k : ℕ) → i ≤ j → new j k ≡ old j k) → AllStand m from fate i ops old done → AllStand m from fate i ops new done
  ops_same from fate i [] old new done e h = h
  ops_same from fate i (op ∷ ops) old new done e h = (
    h.0,
    (
      h.1.0,
      (
        h.1.1.0,
        (
          steps_same from fate 0 (steps_of m i op) (old i) (new i) h.0 (λ l u. e i l (omega arith)) h.1.1.1.0,
          ops_same (from + room_of m op) (fate + fates_of op) (suc i) ops old new h.1.0 (λ j k u. e j k (omega (arith, u))) h.1.1.1.1,
        ),
      ),
    ),
  )

  -- a block's next moves among those of its op

  abbrev pub Next : (from fate k : ℕ) → Step → Status → Done → Type 0
  Next from fate k step next d =
      let b = by_moves m (own_at from k) (fate + k) step in
      (here : List ActAnswer) × ((d ≡ so_far b.moves here) × SlotStands (parts_of m (own_at from k) (fate + k) step) b.join next here)

  abbrev pub BlockTurns : (from fate k : ℕ) → Step → (old next : Status) → Moves → List ActAnswer → Type 0
  BlockTurns from fate k step old next run ts =
      let b = by_moves m (own_at from k) (fate + k) step in
      (here : List ActAnswer) → SlotStands (parts_of m (own_at from k) (fate + k) step) b.join old here → Turn b.moves (so_far b.moves here) run ts (Next from fate k step next)

  pub step_turn : (from fate k : ℕ) (xs : List Step) (step : Step) (ys : List Step) (at : ℕ) (old new : ℕ → Status) (done : Done) (run : Moves) (ts : List ActAnswer) → k + length xs ≡ at →
      ((l : ℕ) → (l ≡ at → ⊥) → new l ≡ old l) → BlockTurns from fate at step (old at) (new at) run ts → NoneMeet conflict (all_moves (blocks_from m from fate k xs)) run →
      StandFrom m from fate k (xs ++ (step ∷ ys)) old done → Turn (all_moves (blocks_from m from fate k (xs ++ (step ∷ ys)))) done run ts (StandFrom m from fate k (xs ++ (step ∷ ys)) new)
  step_turn from fate k [] step ys at old new done run ts e same block apart h =
      let here : k ≡ at = omega (arith, e) in
      let b = by_moves m (own_at from k) (fate + k) step in
      let turns = subst (λ l. BlockTurns from fate l step (old l) (new l) run ts) (sym here) block in
      let tail = steps_same from fate (suc k) ys old new h.1.0 (λ l u. same l (λ q. omega (arith, q, u, here))) h.1.1.1.1 in
      subst (λ d. Turn (b.moves ++ all_moves (blocks_from m from fate (suc k) ys)) d run ts (StandFrom m from fate k (step ∷ ys) new)) (sym h.1.1.0)
      (in_front b.moves run (all_moves (blocks_from m from fate (suc k) ys)) (so_far b.moves h.0) h.1.0 ts (Next from fate k step (new k)) (StandFrom m from fate k (step ∷ ys) new)
      (λ d n. (n.0, (h.1.0, (ap (λ x. x ++ h.1.0) n.1.0, (n.1.1, tail)))))
      (turns h.0 h.1.1.1.0))
  step_turn from fate k (x ∷ xs) step ys at old new done run ts e same block apart h =
      let b = by_moves m (own_at from k) (fate + k) x in
      let p = parts_of m (own_at from k) (fate + k) x in
      let rest = step_turn from fate (suc k) xs step ys at old new h.1.0 run ts (omega (arith, e)) same block (meet_rest b.moves (all_moves (blocks_from m from fate (suc k) xs)) run apart) h.1.1.1.1 in
      subst (λ d. Turn (b.moves ++ all_moves (blocks_from m from fate (suc k) (xs ++ (step ∷ ys)))) d run ts (StandFrom m from fate k (x ∷ (xs ++ (step ∷ ys))) new)) (sym h.1.1.0)
      (behind b.moves (all_moves (blocks_from m from fate (suc k) (xs ++ (step ∷ ys)))) run (so_far b.moves h.0) h.1.0 ts (StandFrom m from fate (suc k) (xs ++ (step ∷ ys)) new) (StandFrom m from fate k (x ∷ (xs ++ (step ∷ ys))) new)
      (far_length b.moves h.0) (clear_of_all run b.moves (so_far b.moves h.0) (meet_first b.moves (all_moves (blocks_from m from fate (suc k) xs)) run apart))
      (λ d n. (h.0, (d, (refl, (subst (λ s. SlotStands p b.join s h.0) (sym (same k (λ q. omega (arith, q, e)))) h.1.1.1.0, n)))))
      rest)
    where
      meet_first : (xs ys run : Moves) → NoneMeet conflict (xs ++ ys) run → NoneMeet conflict xs run
      meet_first [] ys run h = tt
      meet_first (x ∷ xs) ys run h = (h.0, meet_first xs ys run h.1)

      meet_rest : (xs ys run : Moves) → NoneMeet conflict (xs ++ ys) run → NoneMeet conflict ys run
      meet_rest [] ys run h = h
      meet_rest (x ∷ xs) ys run h = meet_rest xs ys run h.1

  -- an op's next moves among all

  abbrev pub OpTurns : (from fate i : ℕ) → Op → (old new : ℕ → Status) → Moves → List ActAnswer → Type 0
  OpTurns from fate i op old new run ts =
      (here : Done) → StandFrom m from fate 0 (steps_of m i op) old here → Turn (all_moves (blocks_of m from fate i op)) here run ts (StandFrom m from fate 0 (steps_of m i op) new)

  abbrev pub ClearOps : (from fate i : ℕ) → List Op → (ℕ → ℕ → Status) → Moves → Type 0
  ClearOps from fate i [] status run = Unit {0}
  ClearOps from fate i (op ∷ ops) status run =
      ((here : Done) → StandFrom m from fate 0 (steps_of m i op) (status i) here → AllClear run (all_moves (blocks_of m from fate i op)) here) × ClearOps (from + room_of m op) (fate + fates_of op) (suc i) ops status run

  pub op_turn : (from fate i : ℕ) (xs : List Op) (op : Op) (ys : List Op) (at from' fate' : ℕ) (old new : ℕ → ℕ → Status) (done : Done) (run : Moves) (ts : List ActAnswer) →
      i + length xs ≡ at → from + rooms m xs ≡ from' → fate + fates xs ≡ fate' → ((j l : ℕ) → (j ≡ at → ⊥) → new j l ≡ old j l) → OpTurns from' fate' at op (old at) (new at) run ts → ClearOps from fate i xs old run →
      AllStand m from fate i (xs ++ (op ∷ ys)) old done → Turn (moves_from m from fate i (xs ++ (op ∷ ys))) done run ts (AllStand m from fate i (xs ++ (op ∷ ys)) new)
  op_turn from fate i [] op ys at from' fate' old new done run ts e f g same turns clear h =
      let here : at ≡ i = omega (arith, e) in
      let there : from' ≡ from = omega (arith, f) in
      let found : fate' ≡ fate = omega (arith, g) in
      let mine = subst (λ a. OpTurns a fate i op (old i) (new i) run ts) there (subst (λ a. OpTurns from' a i op (old i) (new i) run ts) found (subst (λ a. OpTurns from' fate' a op (old a) (new a) run ts) here turns)) in
      let tail = ops_same (from + room_of m op) (fate + fates_of op) (suc i) ys old new h.1.0 (λ j k u. same j k (λ q. omega (arith, q, u, here))) h.1.1.1.1 in
      subst (λ d. Turn (moves_from m from fate i (op ∷ ys)) d run ts (AllStand m from fate i (op ∷ ys) new)) (sym h.1.1.0)
      (in_front (all_moves (blocks_of m from fate i op)) run (moves_from m (from + room_of m op) (fate + fates_of op) (suc i) ys) h.0 h.1.0 ts (StandFrom m from fate 0 (steps_of m i op) (new i)) (AllStand m from fate i (op ∷ ys) new)
      (λ d n. (d, (h.1.0, (refl, (n, tail)))))
      (mine h.0 h.1.1.1.0))
  op_turn from fate i (x ∷ xs) op ys at from' fate' old new done run ts e f g same turns clear h =
      let rest = op_turn (from + room_of m x) (fate + fates_of x) (suc i) xs op ys at from' fate' old new h.1.0 run ts (omega (arith, e)) (omega (arith, f)) (omega (arith, g)) same turns clear.1 h.1.1.1.1 in
      let mine = all_moves (blocks_of m from fate i x) in
      subst (λ d. Turn (moves_from m from fate i (x ∷ (xs ++ (op ∷ ys)))) d run ts (AllStand m from fate i (x ∷ (xs ++ (op ∷ ys))) new)) (sym h.1.1.0)
      (behind mine (moves_from m (from + room_of m x) (fate + fates_of x) (suc i) (xs ++ (op ∷ ys))) run h.0 h.1.0 ts
      (AllStand m (from + room_of m x) (fate + fates_of x) (suc i) (xs ++ (op ∷ ys)) new) (AllStand m from fate i (x ∷ (xs ++ (op ∷ ys))) new)
      (steps_length from fate 0 (steps_of m i x) (old i) h.0 h.1.1.1.0) (clear.0 h.0 h.1.1.1.0)
      (λ d n. (h.0, (d, (refl, (steps_same from fate 0 (steps_of m i x) (old i) (new i) h.0 (λ l u. same i l (λ q. omega (arith, q, e))) h.1.1.1.0, n)))))
      rest)

  -- the gate keeps what conflicts with these moves away
  pub gate_clears : (n : ℕ) (status : ℕ → ℕ → Status) (from fate i : ℕ) (xs : List Op) (op : Op) (j from' fate' : ℕ) (ls run rs : Moves) → OneCellEach m → AllPlaced m n xs → IsPlaced m n op → n ≤ from →
      from + rooms m xs ≤ from' → fate + fates xs ≤ fate' → all_moves (blocks_of m from' fate' j op) ≡ ls ++ (run ++ rs) → LetsIn m status i xs j op → ClearOps from fate i xs status run
  gate_clears n status from fate i [] op j from' fate' ls run rs one placed mine l f g e lets = tt
  gate_clears n status from fate i (x ∷ xs) op j from' fate' ls run rs one placed mine l f g e lets = (first lets.0, gate_clears n status (from + room_of m x) (fate + fates_of x) (suc i) xs op j from' fate' ls run rs one placed.1 mine (omega (arith, l)) (omega (arith, f)) (omega (arith, g)) e lets.1) where
    first : (AreOver 0 (steps_of m i x) (status i) ⊎ (OpsConflict m i x j op → ⊥)) → (here : Done) → StandFrom m from fate 0 (steps_of m i x) (status i) here → AllClear run (all_moves (blocks_of m from fate i x)) here
    first (inl over) here h = steps_over from fate 0 (steps_of m i x) (status i) here run over h
    first (inr apart) here h =
        clear_of_all run (all_moves (blocks_of m from fate i x)) here
        (midst_apart (all_moves (blocks_of m from fate i x)) ls run rs
        (subst (NoneMeet conflict (all_moves (blocks_of m from fate i x))) e (ops_apart m n from fate i from' fate' j x op one placed.0 mine l (omega (arith, f)) (omega (arith, g)) apart)))
