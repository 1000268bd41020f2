use Rattle.std.proofs.Common.{rules, refl}
use Rattle.dixpi.proofs.device.dixpi_command_decode.Goals as goal

pub returns-in-Ok-clause-only : goal.returns-in-Ok-clause-only
returns-in-Ok-clause-only c f h = let e = c.in-Ok.ensures.only f h in (refl, search rules)

pub returns-in-Err-clause-only : goal.returns-in-Err-clause-only
returns-in-Err-clause-only c f h = let e = c.in-Err.ensures.only f h in absurd (search rules)
