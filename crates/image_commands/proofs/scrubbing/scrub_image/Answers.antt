use Rattle.std.proofs.lemmas.Result.{err_from_is_err_and}
use Rattle.call_refusal.specs.Refusals.{of_untold}
use Rattle.call_refusal.proofs.Untelling.{refused}
use Rattle.image_commands.proofs.Unscrubbed.{unscrubbed}
use Rattle.image_commands.proofs.scrubbing.scrub_image.Goals as goal

pub returns-in_err-devices : goal.returns-in_err-devices
returns-in_err-devices g c =
    let p = err_from_is_err_and c.from_residual.result c.from_residual.ensures.1 in
    rw (p.1, p.2) (unscrubbed (of_untold c.in_err-devices.field-0.0) c.args.name.now _ _ (refused c.in_err-devices.field-0.0 c.args.name.now _ _ c.in_err-devices.ensures.told))
