use Rattle.device_commands.proofs.Likeness.{alike}
use Rattle.device_commands.proofs.laws.bytes_behind_are_not_read.Goals as goal

pub returns : goal.returns
returns c = alike
