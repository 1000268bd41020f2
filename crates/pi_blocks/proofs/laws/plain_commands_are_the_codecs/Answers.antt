use Rattle.pi_blocks.proofs.Forms.{plain_says}
use Rattle.pi_blocks.proofs.laws.plain_commands_are_the_codecs.Goals as goal

pub returns : goal.returns
returns c d f = plain_says d f
