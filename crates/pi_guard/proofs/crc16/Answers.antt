use Rattle.std.proofs.Common.{sym, ◌∙◌}
use Rattle.pi_guard.proofs.RegisterLemmas.{crc-register}
use Rattle.pi_guard.proofs.crc16.Goals as goal

pub returns : goal.returns
returns c = c.register_after.ensures ∙ sym (crc-register c.args.bytes.now)
