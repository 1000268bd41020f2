use Rattle.stack_walk_laws.proofs.Overwriting.{between, flips_to, overwrite_falling}
use Rattle.stack_walk_laws.proofs.falls_steps.an_overwrite_flips_its_block_where_its_call_fails.Goals as goal

pub returns-clause-flips : goal.returns-clause-flips
returns-clause-flips c = λ old left l. (between old left, flips_to old left l)

pub returns-clause-follows : goal.returns-clause-follows
returns-clause-follows c = overwrite_falling
