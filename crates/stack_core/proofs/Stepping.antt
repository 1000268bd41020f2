-- What a step keeps: its steps can still be done over the rig, and the stack goes on.
use Rattle.std.proofs.Common.{◌≡◌, ◌≤◌, ℕ, List, false, refl, sym, subst, arith}
use Rattle.std.specs.List.{list_any}
use Rattle.std.specs.Prelude.{is_some}
use Rattle.fault_schedule.specs.declared.fault.FaultLine.{FaultLine}
use Rattle.rig_api.specs.State.{RigState, Stays as RigStays}
use Rattle.rig_api.specs.Telling.{IsStanding, units_told}
use Rattle.record_laws.specs.Answered.{PutsAnswers}
use Rattle.record_laws.proofs.Going.{puts_nothing}
use Rattle.stack_ops.specs.Ops.{is_overwrite}
use Rattle.stack_steps.specs.declared.choice.Choice.{Choice}
use Rattle.stack_steps.specs.Does.{Chooses, Does}
use Rattle.stack_core.specs.declared.stack.Stack.{Stack}
use Rattle.stack_core.specs.Going.{FailsCounted, StandsOver, Went}
use Rattle.stack_core.specs.Mediums.{HasCounted, medium_replies}
use Rattle.stack_core.specs.Stacks.{HasStep, IsStack, Reaches, StackStays, plan_in}
use Rattle.stack_core.specs.Walking.{Enters, WalksOn}
use Rattle.stack_core.proofs.Going.{spare-left}
use Rattle.stack_core.proofs.StackCounts.{still_silent}
use Rattle.stack_core.proofs.Steps.{SendsNot}
use Rattle.stack_core.proofs.ToldOps.{falling_entered, falling_on, told_entered, told_on, walks_entered, walks_on}

-- the rig has what the ops name, as long as it stands
pub reaches-on : (s s' : Stack) (o o' : RigState) → s'.sheet ≡ s.sheet → o'.standing ≡ o.standing → is_some o'.image ≡ is_some o.image → Reaches s (is_some o.image) o.standing → Reaches s' (is_some o'.image) o'.standing
reaches-on s s' o o' e st t r = rw (e, st, t) (record { devices = r.devices; blocks = r.blocks })

-- a step that sends nothing
pub stands-left : (s s' : Stack) (word cut : ℕ) (c : Choice) (o o' : RigState) → SendsNot c → StandsOver s o → HasStep (plan_in s.sheet) s.machine → Chooses (plan_in s.sheet) s.machine word c → Does (plan_in s.sheet) s.machine c cut s'.machine →
    IsStack s' → s'.sheet ≡ s.sheet → o'.standing ≡ o.standing → o'.room ≡ o.room → is_some o'.image ≡ is_some o.image → StandsOver s' o'
stands-left s s' word cut c o o' n h a ch d is e st room t = record {
  stack = is;
  reaches = reaches-on s s' o o' e st t h.reaches;
  spare = spare-left s s' word cut c o.standing o'.standing o.room o'.room n s.sheet.right.fine h.spare a ch d e st room;
}

-- one that leaves the rig alone
pub went-still : (s s' : Stack) (o : RigState) → IsStack s → StackStays s s' → WalksOn s s' → medium_replies s'.replies.items ≤ medium_replies s.replies.items → ((first : ℕ) → HasCounted o.armed first s o.faults → HasCounted o.armed first s' o.faults) → Went s o s' o
went-still s s' o k stays on few counts = record {
  walks = λ m n opening first w. walks_on m n opening first s s' o.standing o.log k stays on w;
  falling = λ m n opening first w. falling_on m n opening first s s' o.units o.armed o.standing o.log k stays on w;
  told = λ m n opening first calm w. told_on m n opening first s s' o.units o.armed o.standing o.log k stays on w;
  silent = λ calm z. omega (arith, few, z);
  faults = omega arith;
  counts = counts;
  sheet = stays.sheet;
  answered = λ m n opening first w none. puts_nothing o o refl refl refl refl;
}

-- one that admits an op
pub went-entered : (s s' : Stack) (o o' : RigState) → IsStack s → StackStays s s' → Enters o o' s s' → RigStays o o' → o'.log ≡ o.log → o.units ≡ units_told o.standing o.image → IsStanding o.standing o.image →
    FailsCounted s.replies.items s'.replies.items o.faults o'.faults → ((first : ℕ) → HasCounted o.armed first s o.faults → HasCounted o.armed first s' o'.faults) → (list_any is_overwrite s.sheet.ops ≡ false → PutsAnswers o o') → Went s o s' o'
went-entered s s' o o' k stays enters rig log laid ready fails counts answered = record {
  walks = λ m n opening first w. rw (rig.standing, log) (walks_entered m n opening first s s' o o' k stays enters w);
  falling = λ m n opening first w. rw (rig.standing, log) (falling_entered m n opening first s s' o o' k stays enters laid ready rig.armed w);
  told = λ m n opening first calm w. rw (rig.standing, log) (told_entered m n opening first s s' o o' k stays enters laid ready rig.armed calm w);
  silent = still_silent s.replies.items s'.replies.items o.faults o'.faults fails;
  faults = rig.count;
  counts = λ first h. subst (λ (armed : List FaultLine). HasCounted armed first s' o'.faults) (sym rig.armed) (counts first h);
  sheet = stays.sheet;
  answered = λ m n opening first w none. answered none;
}
