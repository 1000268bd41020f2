use Rattle.stack_walk_laws.proofs.Carrying.{carried}
use Rattle.stack_walk_laws.proofs.steps.a_block_is_carried.Goals as goal

pub returns : goal.returns
returns c = λ m n s opening now old new es may has e becomes h. carried m n s opening now old new es may has e becomes h
