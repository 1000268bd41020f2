use Rattle.pi_blocks.proofs.MadeLaws.{fine_when_made, fine_when_made_apart}
use Rattle.pi_blocks.proofs.laws.made_blocks_are_fine.Goals as goal

pub returns-clause-in_line : goal.returns-clause-in_line
returns-clause-in_line c = fine_when_made

pub returns-clause-apart : goal.returns-clause-apart
returns-clause-apart c = fine_when_made_apart
