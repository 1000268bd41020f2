use Rattle.pi_blocks.proofs.MadeLaws.{makes_tuples_alone, makes_tuples_apart}
use Rattle.pi_blocks.proofs.laws.making_writes_tuples_alone.Goals as goal

pub returns-clause-in_line : goal.returns-clause-in_line
returns-clause-in_line c = makes_tuples_alone

pub returns-clause-apart : goal.returns-clause-apart
returns-clause-apart c = makes_tuples_apart
