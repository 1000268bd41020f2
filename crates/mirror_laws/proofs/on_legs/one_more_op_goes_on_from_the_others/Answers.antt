use Rattle.mirror_laws.proofs.OtherOps.{one_more_op}
use Rattle.mirror_laws.proofs.on_legs.one_more_op_goes_on_from_the_others.Goals as goal

pub returns : goal.returns
returns c = λ m half count ops op s. one_more_op m half count ops op s
