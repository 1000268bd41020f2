use Rattle.stack_walk_laws.proofs.Backing.{told_carried}
use Rattle.stack_walk_laws.proofs.end.a_finished_told_stack_is_carried.Goals as goal

pub returns : goal.returns
returns c = λ m fine n ops opening now status log run ended h. told_carried m fine n ops opening now status log run ended h
