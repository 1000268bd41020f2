use Rattle.stack_core.proofs.WalkEnds.{ends_backed}
use Rattle.stack_core.proofs.laws.a_finished_stack_is_backed.Goals as goal

pub returns : goal.returns
returns c = λ m n opening first s st log k w none f bound. ends_backed m n opening first s st log k w (none w.walks.view w.walks.holds) f bound
