use Rattle.stack_laws.proofs.Formed.{formed-start, formed-keeps}
use Rattle.stack_laws.proofs.laws.each_step_keeps_groups.Goals as goal

pub returns : goal.returns
returns c = record { first = formed-start; keeps = formed-keeps }
