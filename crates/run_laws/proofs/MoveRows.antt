-- A write and a `put` by their moves, the `put` done first.
use Rattle.std.proofs.Common.{◌<◌, ℕ, zero, suc, List, [], ◌∷◌, length, get_or, None, refl, arith}
use Rattle.std.specs.Prelude.{replicate}
use Rattle.std.proofs.lemmas.Bool.{eq-eqb}
use Rattle.std.proofs.lemmas.List.{length-replicate}
use Rattle.page_pool.specs.Places.{run}
use Rattle.fault_schedule.specs.declared.fault.Crossing.TheVariants.{TargetToMedium}
use Rattle.walk_laws.specs.Passed.{Op, Put, Write, Act, State, act, conflict, tell, ActAnswer, Leads, all_done, none_done}
use Rattle.walk_laws.specs.ScriptWalk.{set_bytes}
use Rattle.walk_laws.specs.Settings.{Setting, block_of}
use Rattle.walk_laws.proofs.ScriptRows.{faulty, flip, opening, seg}
use Rattle.run_laws.proofs.ShownRows.{one_list}
use Rattle.run_laws.specs.BoundRun.{IsBoundRun, Suits}
use Rattle.run_laws.specs.ScriptMoves.{script_moves}
use Rattle.run_laws.specs.Suited.{keeps_size}
use Rattle.run_laws.proofs.AtTarget.{suits_target}

abbrev m : Setting
m = faulty (flip 1 0 TargetToMedium 5 0x80)

abbrev ops : List Op
ops = Write 0 1 (seg 0 512) 0x1234 ∷ Put 0 600 (1 ∷ 2 ∷ []) ∷ []

-- one private page behind the script's
abbrev before : State
before = record opening { bytes = replicate 5196 0; fates = None ∷ [] }

suited : (k : ℕ) → k < 1 → Suits m (keeps_size opening.blocks) (block_of 1 0 k)
suited zero l = suits_target m opening.blocks (block_of 1 0 0) (record { device = refl; protect = omega arith; stored = refl; fetched = refl })
suited (suc k) l = absurd (omega (arith, l))

-- It meets all that is asked of a script.
bound_run : IsBoundRun m (keeps_size opening.blocks) 1100 ops before
bound_run = record {
  bound = (((one_list 0 512 (omega arith)).below, (refl, suited)), (tt, tt));
  room = let e = length-replicate {A = ℕ} 5196 0 in omega (arith, e);
  found = omega arith;
  all_fine = λ c. eq-eqb (length (get_or opening.blocks c [])) (length (get_or opening.blocks c [])) refl;
}

abbrev moves : List (Act ActAnswer)
moves = script_moves m 1100 ops

abbrev move : ℕ → Act ActAnswer
move i = get_or moves i (set_bytes [] [])

abbrev after_put : State
after_put = act (move 4) before

abbrev after_make : State
after_make = act (move 0) after_put

abbrev after_map : State
after_map = act (move 1) after_make

abbrev after_carry : State
after_carry = act (move 2) after_map

-- Its moves may be done in this order.
led : (now : State) × ((answers : List ActAnswer) × Leads act tell conflict moves (4 ∷ 0 ∷ 1 ∷ 2 ∷ 3 ∷ []) (none_done moves) before (all_done answers) now)
unfolding run
led = (
  act (move 3) after_carry,
  (
    tell (move 0) after_put ∷ tell (move 1) after_make ∷ tell (move 2) after_map ∷ tell (move 3) after_carry ∷ tell (move 4) before ∷ [],
    (
      move 4,
      record { within = omega arith; is_there = refl; is_new = λ d. refl; clear = (refl, (refl, (refl, (refl, tt)))) },
      (
        move 0,
        record { within = omega arith; is_there = refl; is_new = λ d. refl; clear = tt },
        (
          move 1,
          record { within = omega arith; is_there = refl; is_new = λ d. refl; clear = tt },
          (
            move 2,
            record { within = omega arith; is_there = refl; is_new = λ d. refl; clear = tt },
            (move 3, record { within = omega arith; is_there = refl; is_new = λ d. refl; clear = tt }, (refl, refl)),
          ),
        ),
      ),
    ),
  ),
)
