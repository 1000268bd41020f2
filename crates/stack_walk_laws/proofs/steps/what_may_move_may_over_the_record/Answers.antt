use Rattle.block_path.specs.Routes.{told_by}
use Rattle.run_laws.specs.ToldRun.{came_by}
use Rattle.stack_walk_laws.proofs.OverDevice.{acts_over, all_placed_over, going_over, lets_over, may_over, moves_over}
use Rattle.stack_walk_laws.proofs.steps.what_may_move_may_over_the_record.Goals as goal

pub returns-clause-may : goal.returns-clause-may
returns-clause-may c = λ m es n status s h. may_over m (told_by (came_by es)) n status s h

pub returns-clause-moves : goal.returns-clause-moves
returns-clause-moves c = λ m es n s. moves_over m (told_by (came_by es)) n s

pub returns-clause-acts : goal.returns-clause-acts
returns-clause-acts c = λ m es i op h. acts_over m (told_by (came_by es)) i op h

pub returns-clause-lets : goal.returns-clause-lets
returns-clause-lets c = λ m es status i j ops op h. lets_over m (told_by (came_by es)) status i ops j op h

pub returns-clause-placed : goal.returns-clause-placed
returns-clause-placed c = λ m es n ops h. all_placed_over m (told_by (came_by es)) n ops h

pub returns-clause-going : goal.returns-clause-going
returns-clause-going c = λ m es n ops a ios logs status bs spots h. going_over m (told_by (came_by es)) n ops a ios logs status bs spots h
