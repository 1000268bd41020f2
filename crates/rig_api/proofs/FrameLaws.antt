-- Frames that are cut from bytes, or joined to them.
use Rattle.std.proofs.Common.{List, ℕ, ◌++◌, ◌≡◌, [], refl, ◌∷◌, ap, ◌∙◌, sym, append_assoc, length, zero, suc, drop, ◌≤◌, arith, Option, None, Some, Result, Ok, Err, false}
use Rattle.rig_api.specs.Frames.{joined, frames_of, stored_size}
use Rattle.pi_tuple.specs.declared.checks.PiType.{PiType}
use Rattle.pi_tuple.specs.declared.checks.PiType.TheVariants.{Zero, One, Two, Three}
use Rattle.fault_schedule.specs.declared.fault.FaultLine.{FaultLine}
use Rattle.pi_tuple.specs.declared.checks.Check.{Check}
use Rattle.rig_api.specs.Passing.{then_crossed, unless}
use Rattle.rig_api.specs.Target.{Flaw, Found, sent_unless}
use Rattle.fault_schedule.specs.declared.fault.Crossing.TheVariants.{TargetToAdapter}

pub joined_append : (xs ys : List (List ℕ)) → joined (xs ++ ys) ≡ joined xs ++ joined ys
joined_append [] ys = refl
joined_append (x ∷ xs) ys = ap (λ z. x ++ z) (joined_append xs ys) ∙ sym (append_assoc x (joined xs) (joined ys))

pub frames_length : (w n : ℕ) (bytes : List ℕ) → length (frames_of w n bytes) ≡ n
frames_length w zero bytes = refl
frames_length w (suc n) bytes = ap suc (frames_length w n (drop w bytes))

pub stored_least : (ty : PiType) (size : ℕ) → size ≤ stored_size ty size
stored_least Zero size = omega arith
stored_least One size = omega arith
stored_least Two size = omega arith
stored_least Three size = omega arith

-- what comes of a stored block that no line names
abbrev pub unless_found : Option Check → List ℕ → Result (List ℕ) Flaw
unless_found None frame = Ok frame
unless_found (Some check) frame = Err (Found check)

pub unless_crossed : (armed : List FaultLine) (x : Option Check) (frame : List ℕ) → sent_unless false (then_crossed armed None TargetToAdapter (unless x frame)) ≡ unless_found x frame
unless_crossed armed None frame = refl
unless_crossed armed (Some c) frame = refl
