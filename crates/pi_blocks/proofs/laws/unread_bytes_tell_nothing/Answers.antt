use Rattle.pi_blocks.proofs.Sameness.{described-same, fixed-same}
use Rattle.pi_blocks.proofs.laws.unread_bytes_tell_nothing.Goals as goal

pub returns-clause-fixed : goal.returns-clause-fixed
returns-clause-fixed c = fixed-same

pub returns-clause-described : goal.returns-clause-described
returns-clause-described c = described-same
