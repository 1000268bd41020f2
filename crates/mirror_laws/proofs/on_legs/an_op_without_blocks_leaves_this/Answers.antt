use Rattle.mirror_laws.proofs.OtherOps.{no_request}
use Rattle.mirror_laws.proofs.on_legs.an_op_without_blocks_leaves_this.Goals as goal

pub returns : goal.returns
returns c = λ m half count i op s. no_request m half count i op s
