use Rattle.lab_laws.proofs.Exchange.{exchange_answers}
use Rattle.lab_laws.proofs.again.one_exchange_is_an_answer.Goals as goal

pub returns : goal.returns
returns c = exchange_answers
