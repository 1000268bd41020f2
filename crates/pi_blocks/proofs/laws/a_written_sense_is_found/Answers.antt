use Rattle.pi_blocks.proofs.Seeing.{written-tells}
use Rattle.pi_blocks.proofs.laws.a_written_sense_is_found.Goals as goal

pub returns : goal.returns
returns c = written-tells
