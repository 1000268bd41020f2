use Rattle.record_laws.proofs.Exchange.{exchange_puts}
use Rattle.record_laws.proofs.law.an_exchange_puts_its_answer.Goals as goal

pub returns : goal.returns
returns c = exchange_puts
