use Rattle.std.proofs.Common.{◌-◌, ap, sym, ◌∙◌}
use Rattle.wide_guard.proofs.Bridge.{crc_64}
use Rattle.wide_guard.proofs.crc64.Goals as goal

pub returns : goal.returns
returns c = ap (λ v. 18446744073709551615 - v) c.reflected_after.ensures ∙ sym (crc_64 c.args.bytes.now)
