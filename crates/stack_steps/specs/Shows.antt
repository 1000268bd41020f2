-- How a stack in code shows a view.
use Rattle.std.specs.Prelude.{◌≡◌, ◌<◌, ℕ, suc, true, if◌then◌else◌, List, [], ◌∷◌, length, get_or, map}
use Rattle.std.specs.List.{All}
use Rattle.stack_laws.specs.Plan.{Plan}
use Rattle.merge_queue.specs.Groups.{Group}
use Rattle.merge_queue.specs.Index.{Queued}
use Rattle.stack_laws.specs.View.{View, OpView, is_admitted, op_at}
use Rattle.range_gate.specs.Gates.{Gated, conflict_at, has_ended}
use Rattle.stack_laws.specs.Open.{in_order}
use Rattle.stack_laws.specs.Steps.{Step, End as StepEnd, Complete as StepComplete, Admit as StepAdmit, Cut as StepCut, Join as StepJoin, Send as StepSend, unended, enabled_below}
use Rattle.stack_laws.specs.Runs.{blocks_of_requests}
use Rattle.stack_laws.specs.Sound.{Sound}
use Rattle.stack_laws.specs.Formed.{Formed}
use Rattle.stack_laws.specs.Room.{Accounted}
use Rattle.stack_laws.specs.Measure.{StepsCounted}
use Rattle.stack_steps.specs.declared.state.OpState.{OpState}
use Rattle.stack_steps.specs.declared.choice.Choice.{Choice}
use Rattle.stack_steps.specs.declared.choice.Choice.TheVariants.{End, Complete, Admit, Cut, Join, Send}
use Rattle.stack_steps.specs.State.{phase_of, state_of}
use Rattle.stack_steps.specs.Flights.{Flights}

-- the ops that have not ended, in order
abbrev pub live_from : ℕ → List OpView → List ℕ
live_from k [] = []
live_from k (o ∷ os) = if has_ended o.phase then live_from (suc k) os else k ∷ live_from (suc k) os

abbrev pub live_ops : View → List ℕ
live_ops v = live_from 0 v.ops

abbrev pub groups_of : Queued → List Group
groups_of q = q.groups

abbrev pub HasRoom : ℕ → Queued → Type 0
HasRoom n q = q.room ≡ n

-- an admitted op is among the first 32 that have not ended
abbrev pub Windowed : View → Type 0
Windowed v = (i : ℕ) → is_admitted (op_at v i).phase ≡ true → length (unended v i) < 32

-- the gate keeps apart the ops that conflict
abbrev pub IsGateOf : Plan → Gated → Type 0
IsGateOf p g = (j i : ℕ) → j < i → i < length p.requests → conflict_at g.conflicts j i ≡ p.conflicts j i

-- What is kept: of each op its phase, how much is cut and how much is unsettled; the ops that have not ended; the groups that the queues hold; the commands in flight.
pub record Shows (p : Plan) (g : Gated) (ops : List OpState) (live : List ℕ) (queues : List Queued) (flight : Flights) (steps : ℕ) (held : List (List Group)) (v : View) : Type 0 where
  pub phases : g.phases ≡ map phase_of v.ops
  pub conflicts : IsGateOf p g
  pub states : ops ≡ map state_of v.ops
  pub listed : live ≡ live_ops v
  pub queued : map groups_of queues ≡ held
  pub flying : flight.commands ≡ in_order v.commands
  pub taken : steps ≡ v.steps
  pub queue_room : All (HasRoom (blocks_of_requests p.requests)) queues
  pub flight_room : flight.room ≡ blocks_of_requests p.requests
  pub sound : Sound p v
  pub formed : Formed p v
  pub accounted : Accounted p v
  pub counted : StepsCounted p v
  pub windowed : Windowed v

abbrev pub Means : Plan → View → Choice → Step → Type 0
Means p v (End q) s = (q < length (live_ops v)) × (s ≡ StepEnd (get_or (live_ops v) q 0))
Means p v (Complete i) s = (i < length (in_order v.commands)) × (s ≡ get_or (enabled_below p v StepComplete (length v.commands)) i (StepEnd 0))
Means p v (Admit q) s = (q < length (live_ops v)) × (s ≡ StepAdmit (get_or (live_ops v) q 0))
Means p v (Cut q) s = (q < length (live_ops v)) × (s ≡ StepCut (get_or (live_ops v) q 0))
Means p v (Join d i j) s = s ≡ StepJoin d i j
Means p v (Send d i) s = s ≡ StepSend d i

-- the op of a step, where it has one
abbrev pub op_of : Step → ℕ
op_of (StepEnd i) = i
op_of (StepComplete j) = 0
op_of (StepAdmit i) = i
op_of (StepCut i) = i
op_of (StepJoin d i j) = 0
op_of (StepSend d i) = 0
