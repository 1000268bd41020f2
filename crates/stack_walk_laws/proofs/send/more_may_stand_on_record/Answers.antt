use Rattle.run_laws.specs.ToldRun.{came_by}
use Rattle.stack_walk_laws.proofs.Switch.{switch}
use Rattle.stack_walk_laws.proofs.send.more_may_stand_on_record.Goals as goal

pub returns : goal.returns
returns c = λ m n ops opening now status one two es same h. switch m (came_by one) (came_by two) n ops opening now status es same h
