use Rattle.std.specs.Prelude.{ℕ, List, not, eqb}
use Rattle.pi_guard.specs.declared.RunState.{RunState}
use Rattle.pi_guard.specs.Stands.{IsKept}
use Rattle.pi_blocks.specs.Layouts.{kind_of}
use Rattle.pi_blocks.specs.declared.run.Run.{Run}

-- the state that a run's numbers mean
abbrev pub state_of : Run → RunState
state_of r = record { kind = kind_of r.guard; value = r.value; half_open = not (eqb r.odd 0) }

-- the run has read these bytes
abbrev pub HasRead : Run → List ℕ → Type 0
HasRead r b = IsKept (state_of r) b
