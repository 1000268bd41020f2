-- A step that sends nothing leaves room for what may still be sent.
use Rattle.std.proofs.Common.{◌≡◌, ℕ, []}
use Rattle.rig_api.specs.Log.{Room}
use Rattle.rig_api.specs.Telling.{Standing, greatest_size}
use Rattle.stack_laws.specs.Steps.{chosen, step}
use Rattle.stack_laws.proofs.Enabled.{chosen-can}
use Rattle.stack_steps.specs.declared.choice.Choice.{Choice}
use Rattle.stack_steps.specs.Does.{CanStep, Chooses, Does}
use Rattle.stack_steps.specs.Fine.{Fine}
use Rattle.stack_core.specs.declared.stack.Stack.{Stack}
use Rattle.stack_core.specs.Stacks.{HasSpare, HasStep, plan_in}
use Rattle.stack_walk_laws.proofs.Spare.{next-spare}
use Rattle.stack_core.proofs.Steps.{SendsNot, unanswered}

-- the machine that has a step shows a view with one
pub can-step : (s : Stack) (st : Standing) (r : Room) → HasSpare s st r → HasStep (plan_in s.sheet) s.machine → CanStep (plan_in s.sheet) s.machine
can-step s st r h a = record { view = h.view; holds = h.holds; some = a h.view h.holds }

pub spare-left : (s s₂ : Stack) (word cut : ℕ) (c : Choice) (st st₂ : Standing) (r r₂ : Room) → SendsNot c → Fine (plan_in s.sheet) → HasSpare s st r → HasStep (plan_in s.sheet) s.machine → Chooses (plan_in s.sheet) s.machine word c → Does (plan_in s.sheet) s.machine c cut s₂.machine →
    s₂.sheet ≡ s.sheet → st₂ ≡ st → r₂ ≡ r → HasSpare s₂ st₂ r₂
spare-left s s₂ word cut c st st₂ r r₂ n f h a ch d e x y =
    let p = plan_in s.sheet in
    let v = h.view in
    let l = a v h.holds in
    let t = chosen p v word in
    let k = chosen-can p v word l in
    let m = ch v h.holds l in
    record {
      view = step p v t cut [];
      holds = rw e (d v t h.holds k m);
      spare = rw (e, x, y) (next-spare p s.machine v t cut [] (greatest_size st) r f h.holds k (unanswered p v c t n m) h.spare);
    }
