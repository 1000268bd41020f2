use Rattle.std.proofs.Common.{rules}
use Rattle.device_commands.proofs.command.DeviceCommand.encode.Goals as goal

pub returns-clause-written : goal.returns-clause-written
returns-clause-written c = (c.in-Some.op, record { bounds = c.fits.ensures.bounds; number = search rules; fits = search rules }, search rules)
