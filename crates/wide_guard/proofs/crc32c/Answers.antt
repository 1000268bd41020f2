use Rattle.std.proofs.Common.{◌-◌, ap, sym, ◌∙◌}
use Rattle.wide_guard.proofs.Bridge.{crc_32}
use Rattle.wide_guard.proofs.crc32c.Goals as goal

pub returns : goal.returns
returns c = ap (λ v. 4294967295 - v) c.reflected_after.ensures ∙ sym (crc_32 c.args.bytes.now)
