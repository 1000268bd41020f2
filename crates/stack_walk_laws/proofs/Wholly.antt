-- An op that is no request is done whole.
use Rattle.std.proofs.Common.{◌≡◌, ℕ, zero, suc, ◌+◌, ◌%◌, ◌^◌, List, [], ◌∷◌, ◌++◌, length, map, get_or, None, refl, sym, ap, subst, ◌∙◌, arith, append-nil}
use Rattle.block_path.specs.Acts.{State, act, tell}
use Rattle.block_path.specs.Blocks.{ActAnswer, Sent, silent}
use Rattle.block_path.specs.Serial.{all_done, none_done, plain, plain_tells}
use Rattle.run_laws.specs.Passed.{act_of, acts_of, Setting, Alters, Reads, Seals, Sets, Shows, Step, Writes, WritesPi, body_of, each_from, steps_of, tuple_of, Op, Fetch, FetchPi, Fill, Overwrite, Put, Seal, Show, Wait, Write, WritePi}
use Rattle.run_laws.specs.BoundRun.{fates, rooms}
use Rattle.run_laws.specs.OpsApart.{IsPlaced, OneCellEach}
use Rattle.run_laws.specs.ScriptMoves.{ByMoves, all_moves, at_once, blocks_from, blocks_of, by_moves, own_at}
use Rattle.stack_walk_laws.specs.Following.{Follows, StandFrom}
use Rattle.stack_walk_laws.specs.Gate.{AllPlaced, BecomesDone, IsAlone, LetsIn}
use Rattle.stack_walk_laws.specs.Slots.{Done as AllDone, SlotStands, Status, Waits, parts_of, so_far, whole_part}
use Rattle.stack_walk_laws.proofs.Runs.{AllQuiet, Done, IsQuiet, clear_nothing}
use Rattle.stack_walk_laws.proofs.Standing.{OpTurns, gate_clears, op_turn}
use Rattle.stack_walk_laws.proofs.Moving.{follow_quiet}

abbrev pub IsAtOnce : Step → Type 0
IsAtOnce (Sets at values) = Unit {0}
IsAtOnce (Shows at) = Unit {0}
IsAtOnce (Seals body tuple app rtag) = Unit {0}
IsAtOnce (Writes b app body) = ⊥
IsAtOnce (WritesPi b frame) = ⊥
IsAtOnce (Reads b owner to) = ⊥
IsAtOnce (Alters dev lba change) = Unit {0}

abbrev pub AllAtOnce : List Step → Type 0
AllAtOnce [] = Unit {0}
AllAtOnce (step ∷ steps) = IsAtOnce step × AllAtOnce steps

each_at_once : (k n : ℕ) (f : ℕ → Step) → ((j : ℕ) → IsAtOnce (f j)) → AllAtOnce (each_from k n f)
each_at_once k zero f h = tt
each_at_once k (suc n) f h = (h k, each_at_once (suc k) n f h)

pub alone_steps : (m : Setting) (i : ℕ) (op : Op) → IsAlone op → AllAtOnce (steps_of m i op)
alone_steps m i (Fill seg byte) h = (tt, tt)
alone_steps m i (Put page off bytes) h = (tt, tt)
alone_steps m i (Show seg) h = (tt, tt)
alone_steps m i (Seal n body tuples app rtag) h = each_at_once 0 n (λ k. Seals (body_of m.size body k) (tuple_of tuples k) app ((rtag + k) % 2 ^ 32)) (λ j. tt)
alone_steps m i (Write v n body app) h = absurd h
alone_steps m i (Fetch v n body) h = absurd h
alone_steps m i (WritePi v n body tuples) h = absurd h
alone_steps m i (FetchPi v n body tuples) h = absurd h
alone_steps m i (Overwrite dev lba change) h = (tt, tt)
alone_steps m i Wait h = tt

-- a step that is done at once has one move
pub record OneMove (m : Setting) (own : List ℕ) (fate : ℕ) (step : Step) : Type 0 where
  pub parts : parts_of m own fate step ≡ whole_part (act_of m step)
  pub moves : by_moves m own fate step ≡ at_once (act_of m step)
  pub quiet : IsQuiet (act_of m step)

pub one_move : (m : Setting) (own : List ℕ) (fate : ℕ) (step : Step) → IsAtOnce step → OneMove m own fate step
one_move m own fate (Sets at values) h = record { parts = refl; moves = refl; quiet = record { logs = refl; sent = λ s. refl } }
one_move m own fate (Shows at) h = record { parts = refl; moves = refl; quiet = record { logs = refl; sent = λ s. refl } }
one_move m own fate (Seals body tuple app rtag) h = record { parts = refl; moves = refl; quiet = record { logs = refl; sent = λ s. refl } }
one_move m own fate (Writes b app body) h = absurd h
one_move m own fate (WritesPi b frame) h = absurd h
one_move m own fate (Reads b owner to) h = absurd h
one_move m own fate (Alters dev lba change) h = record { parts = refl; moves = refl; quiet = record { logs = refl; sent = λ s. refl } }

module _ (m : Setting) (from fate : ℕ) where
  alone_moves : (k : ℕ) (steps : List Step) → AllAtOnce steps → all_moves (blocks_from m from fate k steps) ≡ map (act_of m) steps
  alone_moves k [] h = refl
  alone_moves k (step ∷ steps) h =
      let one = one_move m (own_at from k) (fate + k) step h.0 in
      ap (λ (b : ByMoves). b.moves ++ all_moves (blocks_from m from fate (suc k) steps)) one.moves ∙ ap (λ rest. act_of m step ∷ rest) (alone_moves (suc k) steps h.1)

  none_of : (answers : List ActAnswer) → length answers ≡ 0 → answers ≡ []
  none_of [] e = refl
  none_of (a ∷ answers) e = absurd (omega (arith, e))

  alone_waits : (k : ℕ) (steps : List Step) (status : ℕ → Status) (done : Done) → AllAtOnce steps → ((l : ℕ) → status l ≡ Waits) → StandFrom m from fate k steps status done → done ≡ none_done (map (act_of m) steps)
  alone_waits k [] status done h w st = st
  alone_waits k (step ∷ steps) status done h w st =
      let b = by_moves m (own_at from k) (fate + k) step in
      let p = parts_of m (own_at from k) (fate + k) step in
      let one = one_move m (own_at from k) (fate + k) step h.0 in
      let stands = subst (λ s. SlotStands p b.join s st.0) (w k) st.1.1.1.0 in
      let nothing = none_of st.0 stands.count in
      st.1.1.0 ∙ ap (λ here. so_far b.moves here ++ st.1.0) nothing ∙ ap (λ (b : ByMoves). so_far b.moves [] ++ st.1.0) one.moves ∙ ap (λ rest. None ∷ rest) (alone_waits (suc k) steps status st.1.0 h.1 w st.1.1.1.1)

  alone_done : (k : ℕ) (steps : List Step) (status : ℕ → Status) (s : State) → AllAtOnce steps → ((j l : ℕ) → k + j ≡ l → status l ≡ AllDone (get_or (plain_tells act tell (map (act_of m) steps) s) j silent).shown) →
      StandFrom m from fate k steps status (all_done (plain_tells act tell (map (act_of m) steps) s))
  alone_done k [] status s h w = refl
  alone_done k (step ∷ steps) status s h w =
      let t = tell (act_of m step) s in
      let one = one_move m (own_at from k) (fate + k) step h.0 in
      let rest = all_done (plain_tells act tell (map (act_of m) steps) (act (act_of m step) s)) in
      let mine : SlotStands (whole_part (act_of m step)) (at_once (act_of m step)).join (status k) (t ∷ []) =
      subst (λ x. SlotStands (whole_part (act_of m step)) (at_once (act_of m step)).join x (t ∷ [])) (sym (w 0 k (omega arith))) (record { count = refl; sent = refl; tells = refl }) in
      let there : SlotStands (parts_of m (own_at from k) (fate + k) step) (by_moves m (own_at from k) (fate + k) step).join (status k) (t ∷ []) =
      subst (λ p. SlotStands p (by_moves m (own_at from k) (fate + k) step).join (status k) (t ∷ [])) (sym one.parts) (subst (λ (b : ByMoves). SlotStands (whole_part (act_of m step)) b.join (status k) (t ∷ [])) (sym one.moves) mine) in (
        t ∷ [],
        (
          rest,
          (
            ap (λ (b : ByMoves). so_far b.moves (t ∷ []) ++ rest) (sym one.moves),
            (there, alone_done (suc k) steps status (act (act_of m step) s) h.1 (λ j l e. w (suc j) l (omega (arith, e)))),
          ),
        ),
      )

alone_quiet : (m : Setting) (steps : List Step) → AllAtOnce steps → AllQuiet (map (act_of m) steps)
alone_quiet m [] h = tt
alone_quiet m (step ∷ steps) h = ((one_move m [] 0 step h.0).quiet, alone_quiet m steps h.1)

pub wholly : (m : Setting) (n : ℕ) (front behind : List Op) (op : Op) (opening now : State) (old new : ℕ → ℕ → Status) (es : List Sent) → let i = suc (length front) in
    OneCellEach m → AllPlaced m n front → IsPlaced m n op → IsAlone op → LetsIn m old 1 front i op → BecomesDone m i op now old new →
    Follows m n (front ++ (op ∷ behind)) opening old now es → Follows m n (front ++ (op ∷ behind)) opening new (plain act (acts_of m i op) now) es
wholly m n front behind op opening now old new es one placed mine alone lets becomes h =
    let i = suc (length front) in
    let from = n + rooms m front in
    let fate = fates front in
    let steps = steps_of m i op in
    let run = acts_of m i op in
    let ts = plain_tells act tell run now in
    let all = alone_steps m i op alone in
    let moves : all_moves (blocks_of m from fate i op) ≡ run = alone_moves m from fate 0 steps all in
    let turns : OpTurns m from fate i op (old i) (new i) run ts =
    λ here stand. record {
      before = [];
      after = [];
      ds = [];
      bs = [];
      moves_are = moves ∙ sym (append-nil run);
      done_is = alone_waits m from fate 0 steps (old i) here all (becomes.waits) stand ∙ sym (append-nil (none_done run));
      size = refl;
      clear = clear_nothing run;
      next = subst (StandFrom m from fate 0 steps (new i)) (sym (append-nil (all_done ts))) (alone_done m from fate 0 steps (new i) now all (λ j l e. subst (λ q. new i q ≡ AllDone (get_or ts j silent).shown) (let u : j ≡ l = omega (arith, e) in u) (becomes.done j)));
    } in
    let clear = gate_clears m n old n 0 1 front op i from fate [] run [] one placed mine (omega arith) (omega arith) (omega arith) (moves ∙ sym (append-nil run)) lets in
    follow_quiet m n (front ++ (op ∷ behind)) opening now old new es run h
    (op_turn m n 0 1 front op behind i from fate old new h.done run ts (omega arith) refl (omega arith) becomes.elsewhere turns clear h.stand)
    (alone_quiet m steps all)
