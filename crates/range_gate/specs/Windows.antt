-- The places of the ops that have not ended, as a gate keeps them.
use Rattle.std.specs.Prelude.{◌<◌, ℕ, Bool, List, length, map, slice_index}
use Rattle.range_gate.specs.Prints.{KeptPrint, clash}

-- each place is behind those that follow it
abbrev pub Falls : List ℕ → Type 0
Falls live = (a b : ℕ) → a < b → b < length live → slice_index live b < slice_index live a

-- for each layout, with which layouts it clashes
abbrev pub clashes : List KeptPrint → List (List Bool)
clashes prints = map (λ p. map (clash p) prints) prints
