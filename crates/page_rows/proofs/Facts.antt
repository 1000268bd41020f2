-- What the checks of rows tell.
use Rattle.std.proofs.Common.{◌≡◌, ◌≤◌, ℕ, zero, suc, List, [], ◌∷◌, length, get_or, refl, true, false, arith}
use Rattle.merge_queue.specs.Groups.{Group}
use Rattle.merge_queue.specs.Index.{bios_in}
use Rattle.range_gate.specs.Gates.{has_ended, is_waiting}
use Rattle.range_gate.specs.declared.phase.Phase.{Phase}
use Rattle.range_gate.specs.declared.phase.Phase.TheVariants.{Waiting, Admitted, Ended}

-- no group has more bios than all of them
pub one_group : (gs : List Group) (i : ℕ) → length (get_or gs i []) ≤ bios_in gs
one_group [] i = omega arith
one_group (g ∷ gs) zero = omega arith
one_group (g ∷ gs) (suc i) = let e = one_group gs i in omega arith

-- an op that neither waits nor has ended was admitted
pub is_between : (p : Phase) → is_waiting p ≡ false → has_ended p ≡ false → p ≡ Admitted
is_between Waiting w e = let x : true ≡ false = w in cc
is_between Admitted w e = refl
is_between Ended w e = let x : true ≡ false = e in cc
