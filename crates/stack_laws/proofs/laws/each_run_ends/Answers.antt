use Rattle.stack_laws.proofs.Runs.{run-sound, run-ends, run-steps, run-sends}
use Rattle.stack_laws.proofs.laws.each_run_ends.Goals as goal

pub returns : goal.returns
returns c = record { sound = run-sound; ends = run-ends; steps = run-steps; sends = run-sends }
