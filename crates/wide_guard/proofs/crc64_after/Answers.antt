use Rattle.std.proofs.Common.{◌-◌, ap, ◌∙◌}
use Rattle.wide_guard.proofs.Bridge.{crc_64_goes_on}
use Rattle.wide_guard.proofs.crc64_after.Goals as goal

pub returns : goal.returns
returns c before e = ap (λ v. 18446744073709551615 - v) c.reflected_after.ensures ∙ crc_64_goes_on c.args.guard before c.args.bytes.now e
