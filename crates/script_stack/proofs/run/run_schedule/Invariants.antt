use Rattle.std.proofs.Common.{◌≡◌}
use Rattle.rig_api.specs.State.{Stays as RigStays}
use Rattle.stack_core.specs.Going.{StandsOver, Went}
use Rattle.script_stack.specs.Sends.{SendsBy, entries_of}
use Rattle.stack_core.specs.Stacks.{GoesOn, StackStays}
use Rattle.script_stack.proofs.run.run_schedule.Given as goal

abbrev pub invariant-loop-word : goal.invariant-loop-word
invariant-loop-word g l = record {
  stands : StandsOver l.stack (g.R.Rig.state l.rig);
  stays : StackStays l.fn.stack l.stack;
  rig : RigStays (g.R.Rig.state l.fn.rig) (g.R.Rig.state l.rig);
  went : Went l.fn.stack (g.R.Rig.state l.fn.rig) l.stack (g.R.Rig.state l.rig);
  goes : GoesOn (g.R.Rig.state l.fn.rig) (g.R.Rig.state l.rig);
  sends : l.fn.stack.machine.steps ≡ 0 → SendsBy (entries_of l.schedule) l.fn.stack l.stack (g.R.Rig.state l.fn.rig).log (g.R.Rig.state l.rig).log;
  steps : l.fn.stack.machine.steps ≡ 0 → l.stack.machine.steps ≡ l.word-index;
}
