use Rattle.stack_laws.proofs.Enabled.{sent-once}
use Rattle.stack_laws.proofs.Formed.{sent-group}
use Rattle.stack_laws.proofs.laws.a_sent_group_fits_the_adapter.Goals as goal

pub returns : goal.returns
returns c = record { group = sent-group; once = sent-once }
