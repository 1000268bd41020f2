-- How many steps a stack takes.
use Rattle.std.proofs.Common.{◌≡◌, ◌<◌, ◌≤◌, ℕ, suc, ◌+◌, List, [], ◌∷◌, length, refl, arith}
use Rattle.rig_api.specs.Log.{HasRoom, Room}
use Rattle.stack_laws.specs.Plan.{Plan}
use Rattle.stack_laws.specs.Room.{exchanges_left, frames_left}
use Rattle.stack_laws.specs.Runs.{blocks_of_requests, most_steps}
use Rattle.stack_laws.specs.Steps.{Step, chosen, enabled, step}
use Rattle.stack_laws.specs.View.{View, start}
use Rattle.stack_core.specs.Passed.{Machine, Holds, Works}
use Rattle.rig_api.specs.Telling.{Standing, greatest_size}
use Rattle.stack_laws.proofs.Capacity.{few-unsettled}
use Rattle.stack_laws.proofs.Room.{accounted-start}
use Rattle.stack_laws.proofs.Starts.{starts}
use Rattle.stack_core.specs.declared.stack.Stack.{Stack}
use Rattle.stack_core.specs.Stacks.{HasSpare, HasStep, Steps, plan_in}
use Rattle.stack_core.proofs.Passed.{fewer}

-- a step is one more, and there are at most so many
pub record OneMore (p : Plan) (m m₂ : Machine) : Type 0 where
  pub one : m₂.steps ≡ m.steps + 1
  pub most : m₂.steps ≤ most_steps p

pub one-more : (p : Plan) (m m₂ : Machine) (word cut : ℕ) → Works p m → HasStep p m → Steps p m word cut m₂ → OneMore p m m₂
one-more p m m₂ word cut w h s =
    let v = w.0 in
    let r = s v w.1 (h v w.1) in
    let a = w.1.shows.taken in
    let b = r.2.shows.taken in
    let c = r.2.shows.counted.steps in
    let e : (step p v (chosen p v word) cut r.0).steps ≡ suc v.steps = refl in
    record { one = omega arith; most = omega arith }

some-step : (steps : List Step) → (steps ≡ [] → ⊥) → 0 < length steps
some-step [] h = absurd (h refl)
some-step (s ∷ steps) h = omega arith

-- where all hasn't ended there is a step
pub has-step : (p : Plan) (m : Machine) → ((v : View) → Holds p m v → enabled p v ≡ [] → ⊥) → HasStep p m
has-step p m h v x = some-step (enabled p v) (h v x)

-- at first there is room for as many exchanges and frames as there are blocks
first-left : (p : Plan) → (exchanges_left (start p) ≤ blocks_of_requests p.requests) × (frames_left p (start p) ≤ blocks_of_requests p.requests)
first-left p =
    let a = accounted-start p in
    let u = few-unsettled p (start p) (starts p) in
    (omega arith, omega arith)

pub first-spare : (s : Stack) (st : Standing) (room : Room) → Holds (plan_in s.sheet) s.machine (start (plan_in s.sheet)) → HasRoom (greatest_size st) (blocks_of_requests (plan_in s.sheet).requests) (blocks_of_requests (plan_in s.sheet).requests) room → HasSpare s st room
first-spare s st room h r =
    let p = plan_in s.sheet in
    let n = blocks_of_requests p.requests in
    let k = first-left p in
    record { view = start p; holds = h; spare = fewer (greatest_size st) n n (exchanges_left (start p)) (frames_left p (start p)) room r k.0 k.1 }
