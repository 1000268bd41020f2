use Rattle.block_path.proofs.WriteMoves.{bare_write, own_write, write_in_three}
use Rattle.block_path.proofs.laws.a_write_in_three_moves.Goals as goal

pub returns-clause-one : goal.returns-clause-one
returns-clause-one c = λ s r frame now on at. write_in_three s r frame now at on

pub returns-clause-own : goal.returns-clause-own
returns-clause-own c = λ s r app n body tuple now on whole eight apart cells h. own_write s r app body tuple now whole eight apart cells on n h

pub returns-clause-bare : goal.returns-clause-bare
returns-clause-bare c = λ s r app body now off. bare_write s r app body now off
