-- At first.
use Rattle.std.proofs.Common.{◌≡◌, ℕ, suc, ◌+◌, List, [], ◌∷◌, ◌++◌, get_or, refl, sym, ap, ◌∙◌}
use Rattle.block_path.specs.Acts.{State, act, conflict, tell}
use Rattle.block_path.specs.Serial.{none_done}
use Rattle.block_path.proofs.Serial.{begins}
use Rattle.run_laws.specs.Passed.{Setting, Step, steps_of, Op}
use Rattle.run_laws.specs.ScriptMoves.{all_moves, blocks_from, blocks_of, by_moves, fates_of, moves_from, own_at, room_of, script_moves}
use Rattle.stack_walk_laws.specs.Following.{AllStand, Follows, StandFrom}
use Rattle.stack_walk_laws.specs.Slots.{Status, Waits}
use Rattle.stack_walk_laws.proofs.Runs.{none_far, sents_none, none_both as none_join}

abbrev all_wait : ℕ → ℕ → Status
all_wait i k = Waits

module _ (m : Setting) where
  steps_wait : (from fate k : ℕ) (steps : List Step) → StandFrom m from fate k steps (λ k. Waits) (none_done (all_moves (blocks_from m from fate k steps)))
  steps_wait from fate k [] = refl
  steps_wait from fate k (step ∷ steps) =
      let b = by_moves m (own_at from k) (fate + k) step in
      let rest = all_moves (blocks_from m from fate (suc k) steps) in (
        [],
        (
          none_done rest,
          (
            none_join b.moves rest ∙ ap (λ t. t ++ none_done rest) (sym (none_far b.moves)),
            (record { count = refl; sent = refl; tells = tt }, steps_wait from fate (suc k) steps),
          ),
        ),
      )

  ops_wait : (from fate i : ℕ) (ops : List Op) → AllStand m from fate i ops all_wait (none_done (moves_from m from fate i ops))
  ops_wait from fate i [] = refl
  ops_wait from fate i (op ∷ ops) =
      let mine = all_moves (blocks_of m from fate i op) in
      let rest = moves_from m (from + room_of m op) (fate + fates_of op) (suc i) ops in
      (none_done mine, (none_done rest, (none_join mine rest, (steps_wait from fate 0 (steps_of m i op), ops_wait (from + room_of m op) (fate + fates_of op) (suc i) ops))))

  pub begin_all : (n : ℕ) (ops : List Op) (opening : State) → ((c : ℕ) → get_or opening.logs c [] ≡ []) → Follows m n ops opening all_wait opening []
  begin_all n ops opening empty = record {
    done = none_done (script_moves m n ops);
    stand = ops_wait n 0 1 ops;
    serial = begins act tell conflict (script_moves m n ops) opening;
    logs = empty;
    room = refl;
    sent = rw (sents_none (script_moves m n ops)) refl;
  }
