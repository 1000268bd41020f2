use Rattle.stack_laws.proofs.Enabled.{sent-in-order}
use Rattle.stack_laws.proofs.laws.a_block_is_sent_after_its_conflicts.Goals as goal

pub returns : goal.returns
returns c = sent-in-order
