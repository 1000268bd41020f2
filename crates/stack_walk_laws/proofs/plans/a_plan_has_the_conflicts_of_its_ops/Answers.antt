use Rattle.stack_walk_laws.proofs.Conflicting.{conflicts}
use Rattle.stack_walk_laws.proofs.plans.a_plan_has_the_conflicts_of_its_ops.Goals as goal

pub returns : goal.returns
returns c = conflicts
