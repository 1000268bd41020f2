use Rattle.run_laws.proofs.Earlier.{counts_accepted}
use Rattle.run_laws.proofs.record.the_walk_counts_accepted_writes.Goals as goal

pub returns : goal.returns
returns c = λ m ops opening es replies h. counts_accepted m ops opening es replies h
