use Rattle.std.proofs.Common.{◌≡◌, ◌-◌, ◌≤◌, length}
use Rattle.stack_laws.specs.Runs.{most_steps}
use Rattle.rig_api.specs.State.{Stays as RigStays}
use Rattle.stack_core.specs.Going.{StandsOver, Went}
use Rattle.script_stack.specs.Sends.{SendsBy, entries_of}
use Rattle.stack_core.specs.Stacks.{GoesOn, HasStep, StackStays, plan_in}
use Rattle.script_stack.proofs.run.run_all.Given as goal

abbrev pub invariant-loop-stack : goal.invariant-loop-stack
invariant-loop-stack g l = record {
  stands : StandsOver l.stack (g.R.Rig.state l.rig);
  stays : StackStays l.fn.stack l.stack;
  rig : RigStays (g.R.Rig.state l.fn.rig) (g.R.Rig.state l.rig);
  went : Went l.fn.stack (g.R.Rig.state l.fn.rig) l.stack (g.R.Rig.state l.rig);
  goes : GoesOn (g.R.Rig.state l.fn.rig) (g.R.Rig.state l.rig);
  sends : l.fn.stack.machine.steps ≡ 0 → SendsBy (entries_of l.schedule) l.fn.stack l.stack (g.R.Rig.state l.fn.rig).log (g.R.Rig.state l.rig).log;
  long : l.fn.stack.machine.steps ≡ 0 → HasStep (plan_in l.stack.sheet) l.stack.machine → length (entries_of l.schedule) ≤ l.stack.machine.steps;
}

abbrev pub decreases-loop-stack : goal.decreases-loop-stack
decreases-loop-stack g l = most_steps (plan_in l.stack.sheet) - l.stack.machine.steps
