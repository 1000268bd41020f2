-- Where no fault is scheduled, nothing is altered at a crossing.
use Rattle.std.proofs.Common.{◌≡◌, ℕ, List, [], Option, Some, None, refl, ap}
use Rattle.std.specs.Prelude.{Result, Ok, Err}
use Rattle.pi_tuple.specs.declared.checks.Check.{Check}
use Rattle.rig_api.proofs.Passed.{altered_none}
use Rattle.rig_api.specs.Passed.{crossed, then_crossed, Label, Crossing}

pub crosses : (label : Option Label) (at : Crossing) (frame : List ℕ) → crossed [] label at frame ≡ frame
crosses None at frame = refl
crosses (Some label) at frame = altered_none at label frame

pub comes_through : (label : Option Label) (at : Crossing) (came : Result (List ℕ) Check) → then_crossed [] label at came ≡ came
comes_through None at (Ok frame) = refl
comes_through None at (Err check) = refl
comes_through (Some label) at (Ok frame) = ap (λ f. Ok f) (altered_none at label frame)
comes_through (Some label) at (Err check) = refl
