use Rattle.device_commands.proofs.Saying.{written_is_said}
use Rattle.device_commands.proofs.laws.written_commands_are_said.Goals as goal

pub returns : goal.returns
returns c = written_is_said
