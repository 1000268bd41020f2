-- A gate as contracts see it: which ops conflict, and how far each op is.
use Rattle.std.specs.Prelude.{◌≡◌, ◌<◌, ℕ, zero, suc, Bool, true, false, not, ◌&&◌, nat_lt, if◌then◌else◌, List, [], ◌∷◌, length, slice_index_or, replicate, ◌↔◌}
use Rattle.range_gate.specs.declared.phase.Phase.{Phase}
use Rattle.range_gate.specs.declared.phase.Phase.TheVariants.{Waiting, Admitted, Ended}
use Rattle.range_gate.specs.declared.footprint.Footprint.{Footprint}
use Rattle.range_gate.specs.Conflicts.{Conflict}

-- for each op, with which ops it conflicts, and the phase of each op; op 1 has place 0
pub record Gated : Type 0 where
  pub conflicts : List (List Bool)
  pub phases : List Phase

-- whether the ops at two places conflict
abbrev pub conflict_at : List (List Bool) → ℕ → ℕ → Bool
conflict_at table i j = slice_index_or (slice_index_or table i []) j false

abbrev pub is_waiting : Phase → Bool
is_waiting Waiting = true
is_waiting Admitted = false
is_waiting Ended = false

abbrev pub has_ended : Phase → Bool
has_ended Waiting = false
has_ended Admitted = false
has_ended Ended = true

abbrev pub phase_at : List Phase → ℕ → Phase
phase_at phases i = slice_index_or phases i Ended

-- the places before place i whose ops have not ended, the last of them first
abbrev pub unended : List Phase → ℕ → List ℕ
unended phases zero = []
unended phases (suc i) = if has_ended (phase_at phases i) then unended phases i else i ∷ unended phases i

-- the op at place i conflicts with none of these
abbrev pub none_conflicts : (ℕ → ℕ → Bool) → ℕ → List ℕ → Bool
none_conflicts conflicts i [] = true
none_conflicts conflicts i (j ∷ js) = not (conflicts j i) && none_conflicts conflicts i js

-- the op at place i waits, fewer than 32 earlier ops have not ended, and it conflicts with none of these
abbrev pub may_admit : Gated → ℕ → Bool
may_admit g i = is_waiting (phase_at g.phases i) && (nat_lt (length (unended g.phases i)) 32 && none_conflicts (conflict_at g.conflicts) i (unended g.phases i))

-- a gate for these ops, all of which wait
pub record IsGateFor (footprints : List Footprint) (g : Gated) : Type 0 where
  pub phases : g.phases ≡ replicate (length footprints) Waiting
  pub conflicts : (i j : ℕ) (d : Footprint) → i < length footprints → j < length footprints → (conflict_at g.conflicts i j ≡ true) ↔ Conflict (slice_index_or footprints i d) (slice_index_or footprints j d)

-- the places below n, the last first
abbrev pub falling : ℕ → List ℕ
falling zero = []
falling (suc n) = n ∷ falling n
