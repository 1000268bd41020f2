use Rattle.run_laws.proofs.Falling.{conflicts_alike, is_in_conflict_alike}
use Rattle.run_laws.proofs.store_faults.a_failing_block_conflicts_as_before.Goals as goal

pub returns-clause-one : goal.returns-clause-one
returns-clause-one c = λ m falls step other. conflicts_alike m falls step other

pub returns-clause-other : goal.returns-clause-other
returns-clause-other c = λ m falls step other. is_in_conflict_alike m falls step other
