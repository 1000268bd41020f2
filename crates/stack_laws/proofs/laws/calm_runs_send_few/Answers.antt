use Rattle.stack_laws.proofs.Runs.{good-settles, calm-sends}
use Rattle.stack_laws.proofs.laws.calm_runs_send_few.Goals as goal

pub returns : goal.returns
returns c = record { good = good-settles; few = calm-sends }
