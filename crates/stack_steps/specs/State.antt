-- What a stack keeps of its ops, and what is seen of it.
use Rattle.std.specs.Prelude.{◌<◌, ℕ, ◌-◌, List, [], ◌∷◌, get_or, set, take, drop}
use Rattle.bio_core.specs.declared.bio.Bio.{Bio}
use Rattle.bio_core.specs.declared.fate.Fate.{Fate}
use Rattle.stack_laws.specs.Blocks.{place_of, settled_count}
use Rattle.stack_laws.specs.View.{OpView}
use Rattle.range_gate.specs.declared.phase.Phase.{Phase}
use Rattle.stack_laws.specs.Room.{unmarked}
use Rattle.stack_steps.specs.declared.state.OpState.{OpState}

abbrev pub state_of : OpView → OpState
state_of o = record { cut = o.cut; left = unmarked o }

abbrev pub phase_of : OpView → Phase
phase_of o = o.phase

abbrev pub no_state : OpState
no_state = record { cut = 0; left = 0 }

abbrev pub OpIsIn : ℕ → Bio → Type 0
OpIsIn n b = place_of b.op < n

-- op i with n more blocks settled
abbrev pub lowered : List OpState → ℕ → ℕ → OpState
lowered ops i n = record (get_or ops i no_state) { left = (get_or ops i no_state).left - n }

abbrev pub settle_bios : List Bio → List Fate → List OpState → List OpState
settle_bios [] fs ops = ops
settle_bios (b ∷ bs) fs ops = settle_bios bs (drop b.count fs) (set ops (place_of b.op) (lowered ops (place_of b.op) (settled_count (take b.count fs))))
