use Rattle.pi_blocks.proofs.Forms.{says_encodes}
use Rattle.pi_blocks.proofs.laws.commands_that_are_read_are_written.Goals as goal

pub returns : goal.returns
returns c f bytes h = says_encodes f h.0 bytes h.1
