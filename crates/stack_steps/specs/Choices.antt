-- What a stack may do next, as it counts and finds it.
use Rattle.std.specs.Prelude.{◌≡◌, ◌<◌, ℕ, suc, ◌+◌, min, Bool, ◌&&◌, eqb, nat_lt, List, [], ◌∷◌, ◌++◌, length, get_or, map, Result, Ok, Err}
use Rattle.std.specs.List.{filter}
use Rattle.merge_queue.specs.declared.limits.Limits.{Limits}
use Rattle.stack_laws.specs.Plan.{Plan, request_at}
use Rattle.merge_queue.specs.Groups.{numbers, pairs}
use Rattle.merge_queue.specs.Index.{Queued}
use Rattle.stack_laws.specs.View.{Command, is_admitted}
use Rattle.range_gate.specs.Gates.{Gated, phase_at, may_admit}
use Rattle.stack_steps.specs.declared.state.OpState.{OpState}
use Rattle.stack_steps.specs.declared.choice.OpStep.{OpStep}
use Rattle.stack_steps.specs.declared.choice.OpStep.TheVariants.{Ending, Admission, Cutting}
use Rattle.stack_steps.specs.declared.choice.Choice.{Choice}
use Rattle.stack_steps.specs.declared.choice.Choice.TheVariants.{End, Complete, Admit, Cut, Join, Send}
use Rattle.stack_steps.specs.State.{no_state}

abbrev pub state_at : List OpState → List ℕ → ℕ → OpState
state_at ops live q = get_or ops (get_or live q 0) no_state

-- what the q-th of the ops that have not ended may do
abbrev pub can_at : Plan → Gated → List OpState → List ℕ → OpStep → ℕ → Bool
can_at p g ops live Ending q = is_admitted (phase_at g.phases (get_or live q 0)) && eqb (state_at ops live q).left 0
can_at p g ops live Admission q = may_admit g (get_or live q 0)
can_at p g ops live Cutting q = is_admitted (phase_at g.phases (get_or live q 0)) && nat_lt (state_at ops live q).cut (request_at p (get_or live q 0)).count

-- those of the first 32
abbrev pub places : Plan → Gated → List OpState → List ℕ → OpStep → List ℕ
places p g ops live s = filter (can_at p g ops live s) (numbers 0 (min (length live) 32))

abbrev pub no_choice : Choice
no_choice = End 0

abbrev pub join_choice : ℕ → ℕ × ℕ → Choice
join_choice d ij = Join d ij.0 ij.1

abbrev pub joins_at : Limits → ℕ → List Queued → List Choice
joins_at lim d [] = []
joins_at lim d (q ∷ qs) = map (join_choice d) (pairs lim q.groups) ++ joins_at lim (suc d) qs

abbrev pub sends_at : ℕ → List Queued → List Choice
sends_at d [] = []
sends_at d (q ∷ qs) = map (Send d) (numbers 0 (length q.groups)) ++ sends_at (suc d) qs

abbrev pub choices : Plan → Gated → List OpState → List ℕ → List Queued → List Command → List Choice
choices p g ops live queues flight = map End (places p g ops live Ending) ++ (map Complete (numbers 0 (length flight))
    ++ (map Admit (places p g ops live Admission) ++ (map Cut (places p g ops live Cutting) ++ (joins_at p.limits 0 queues ++ sends_at 0 queues))))

abbrev pub IsBelow : ℕ → ℕ → Type 0
IsBelow n i = i < n

-- the choice of this number among these, or how far the number is past the last
abbrev pub ChoiceFound : List Choice → ℕ → Result Choice ℕ → Type 0
ChoiceFound cs n (Ok c) = (n < length cs) × (c ≡ get_or cs n no_choice)
ChoiceFound cs n (Err left) = n ≡ length cs + left

-- the place of this number among these, or how far the number is past the last
abbrev pub PlaceFound : List ℕ → ℕ → Result ℕ ℕ → Type 0
PlaceFound ps n (Ok q) = (n < length ps) × (q ≡ get_or ps n 0)
PlaceFound ps n (Err left) = n ≡ length ps + left
