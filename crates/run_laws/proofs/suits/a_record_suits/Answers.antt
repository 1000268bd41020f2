use Rattle.run_laws.proofs.AtTarget.{suits_record}
use Rattle.run_laws.proofs.suits.a_record_suits.Goals as goal

pub returns : goal.returns
returns c = λ m came b h k. suits_record m came b h k
