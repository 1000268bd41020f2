use Rattle.lab_laws.proofs.Commands.{read_answers, write_answers}
use Rattle.lab_laws.proofs.again.one_command_is_an_answer.Goals as goal

pub returns-clause-written : goal.returns-clause-written
returns-clause-written c = write_answers

pub returns-clause-fetched : goal.returns-clause-fetched
returns-clause-fetched c = read_answers
