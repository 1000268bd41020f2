use Rattle.device_commands.proofs.Likeness.{codec_written}
use Rattle.device_commands.proofs.laws.codec_commands_are_said.Goals as goal

pub returns : goal.returns
returns c = codec_written
