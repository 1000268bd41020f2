use Rattle.std.proofs.Common.{◌-◌, ap, ◌∙◌}
use Rattle.wide_guard.proofs.Bridge.{crc_32_goes_on}
use Rattle.wide_guard.proofs.crc32c_after.Goals as goal

pub returns : goal.returns
returns c before e = ap (λ v. 4294967295 - v) c.reflected_after.ensures ∙ crc_32_goes_on c.args.guard before c.args.bytes.now e
