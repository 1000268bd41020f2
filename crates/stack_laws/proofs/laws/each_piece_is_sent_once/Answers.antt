use Rattle.stack_laws.proofs.Thrift.{thrifty-keeps}
use Rattle.stack_laws.proofs.laws.each_piece_is_sent_once.Goals as goal

pub returns : goal.returns
returns c = λ p v t fates on s h a w k. thrifty-keeps p v t fates s on h a w k
