-- A write whose store call fails half way, and a `put`, by their moves, the `put` done first.
use Rattle.std.proofs.Common.{◌≡◌, ◌<◌, ℕ, zero, suc, Bool, true, false, ◌&&◌, eqb, if◌then◌else◌, List, [], ◌∷◌, ◌++◌, length, drop, get_or, Option, Some, None, refl, sym, subst, arith}
use Rattle.std.specs.Prelude.{IfSome, replicate}
use Rattle.std.proofs.lemmas.Bool.{eq-eqb, eqb-true}
use Rattle.std.proofs.lemmas.List.{length-replicate}
use Rattle.pi_guard.specs.Guards.{crc, ip}
use Rattle.page_pool.specs.Places.{run}
use Rattle.walk_laws.specs.Passed.{Op, Put, Write, Bad, Silent, found_in, from_medium, to_medium, Act, State, act, conflict, tell, ActAnswer, stored_cell, Leads, all_done, none_done, from_wire, to_wire, TheVariantsMedium as Medium}
use Rattle.walk_laws.specs.ScriptWalk.{replies_by, set_bytes}
use Rattle.walk_laws.specs.Settings.{Block, Setting, block_of, route}
use Rattle.walk_laws.proofs.ScriptRows.{faulty, formatted, opening, seg}
use Rattle.run_laws.proofs.ShownRows.{one_list}
use Rattle.run_laws.specs.BoundRun.{IsBoundRun, Suits}
use Rattle.run_laws.specs.FallingMoves.{LeavesFine, falling_blocks, falling_moves}
use Rattle.run_laws.specs.ScriptMoves.{joins}
use Rattle.run_laws.specs.Suited.{keeps_size}
use Rattle.run_laws.proofs.AtTarget.{suits_target}

abbrev m : Setting
m = faulty []

abbrev ops : List Op
ops = Write 0 1 (seg 0 512) 0x1234 ∷ Put 0 600 (1 ∷ 2 ∷ []) ∷ []

abbrev before : State
before = record opening { bytes = replicate 5196 0; fates = None ∷ [] }

-- the first half of the block stands
abbrev left : List ℕ
left = replicate 260 1 ++ drop 260 (formatted 2)

abbrev falls : Block → Option (List ℕ)
falls b = if eqb b.op 1 && eqb b.virt 0 then Some left else None

leaves_fine : LeavesFine m (keeps_size opening.blocks) falls
leaves_fine b = by (eqb b.op 1) (eqb b.virt 0) refl where
  by : (c d : Bool) → eqb b.virt 0 ≡ d → IfSome (if c && d then Some left else None) (λ left. keeps_size opening.blocks (stored_cell m.site (route m b)) left ≡ true)
  by true true e = subst (λ v. keeps_size opening.blocks (stored_cell m.site (route m (record { op = b.op; k = b.k; virt = v }))) left ≡ true) (sym (eqb-true b.virt 0 e)) refl
  by true false e = tt
  by false d e = tt

suited : (k : ℕ) → k < 1 → Suits m (keeps_size opening.blocks) (block_of 1 0 k)
suited zero l = suits_target m opening.blocks (block_of 1 0 0) (record { device = refl; protect = omega arith; stored = refl; fetched = refl })
suited (suc k) l = absurd (omega (arith, l))

bound_run : IsBoundRun m (keeps_size opening.blocks) 1100 ops before
bound_run = record {
  bound = (((one_list 0 512 (omega arith)).below, (refl, suited)), (tt, tt));
  room = let e = length-replicate {A = ℕ} 5196 0 in omega (arith, e);
  found = omega arith;
  all_fine = λ c. eq-eqb (length (get_or opening.blocks c [])) (length (get_or opening.blocks c [])) refl;
}

abbrev moves : List (Act ActAnswer)
moves = falling_moves m falls 1100 ops

abbrev move : ℕ → Act ActAnswer
move i = get_or moves i (set_bytes [] [])

abbrev after_put : State
after_put = act (move 4) before

abbrev after_make : State
after_make = act (move 0) after_put

abbrev after_map : State
after_map = act (move 1) after_make

abbrev after_carry : State
after_carry = act (move 2) after_map

abbrev answers : List ActAnswer
answers = tell (move 0) after_put ∷ tell (move 1) after_make ∷ tell (move 2) after_map ∷ tell (move 3) after_carry ∷ tell (move 4) before ∷ []

-- Its moves may be done in this order.
led : (now : State) × Leads act tell conflict moves (4 ∷ 0 ∷ 1 ∷ 2 ∷ 3 ∷ []) (none_done moves) before (all_done answers) now
unfolding run
led = (
  act (move 3) after_carry,
  (
    move 4,
    record { within = omega arith; is_there = refl; is_new = λ d. refl; clear = (refl, (refl, (refl, (refl, tt)))) },
    (
      move 0,
      record { within = omega arith; is_there = refl; is_new = λ d. refl; clear = tt },
      (
        move 1,
        record { within = omega arith; is_there = refl; is_new = λ d. refl; clear = tt },
        (
          move 2,
          record { within = omega arith; is_there = refl; is_new = λ d. refl; clear = tt },
          (move 3, record { within = omega arith; is_there = refl; is_new = λ d. refl; clear = tt }, (refl, refl)),
        ),
      ),
    ),
  ),
)

-- The write is listed, and what is left of it lies in its cell.
replies_are : replies_by m 1 ops (joins (falling_blocks m falls 1100 0 1 ops) answers) ≡ Bad (record { k = 0; why = Medium } ∷ []) ∷ Silent ∷ []
unfolding crc ip found_in to_medium from_medium to_wire from_wire run
replies_are = refl

left_there : get_or (led.0).blocks 2 [] ≡ left
unfolding crc ip found_in to_medium from_medium to_wire from_wire run led
left_there = refl
