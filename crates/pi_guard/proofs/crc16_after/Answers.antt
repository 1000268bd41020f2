use Rattle.pi_guard.proofs.Runs.{crc_goes_on}
use Rattle.pi_guard.proofs.crc16_after.Goals as goal

pub returns : goal.returns
returns c before e = crc_goes_on c.args.guard c.register_after.result before c.args.bytes.now e c.register_after.ensures
