use Rattle.stack_core.specs.Going.{StandsOver}
use Rattle.bench_calls.proofs.run.run_words.Given as goal

abbrev pub invariant-loop-step : goal.invariant-loop-step
invariant-loop-step g l = StandsOver l.stack (g.R.Rig.state l.rig)
