use Rattle.std.proofs.Common.{◌∙◌}
use Rattle.script_text.specs.Printed.{script_printed}
use Rattle.script_laws.specs.RoundTrip.{IsWithinLimits}
use Rattle.script_laws.proofs.RoundTrip.{answered, reads_back}
use Rattle.script_laws.proofs.read_back.Goals as goal

pub returns-in-Ok : goal.returns-in-Ok
returns-in-Ok c =
    λ (w : IsWithinLimits (script_printed c.args.script.now)). answered c.args.script.now c.as_slice.result.now (script_printed c.args.script.now) c.read_script.result (reads_back c.args.script.now c.requires w) (c.as_slice.ensures ∙ c.in-Ok.ensures) c.read_script.ensures
