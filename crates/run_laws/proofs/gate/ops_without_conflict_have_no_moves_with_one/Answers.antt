use Rattle.run_laws.proofs.Meeting.{ops_apart}
use Rattle.run_laws.proofs.gate.ops_without_conflict_have_no_moves_with_one.Goals as goal

pub returns : goal.returns
returns c = λ m bytes from fate i next later j op other one p q l r k apart. ops_apart m bytes from fate i next later j op other one p q l r k apart
