use Rattle.std.proofs.Common.{Err, refl, ap}
use Rattle.rig_api.specs.Image.{formatted}
use Rattle.image_rig.proofs.Short.{left_same, left_short, left_whole}
use Rattle.image_rig.proofs.calls.ImageRigRig.format.Goals as goal

pub returns-in_default-clause-short : goal.returns-in_default-clause-short
returns-in_default-clause-short g c = λ is. left_same (formatted c.args.spec.now) (g.S.Store.state c.args.self.now.store).bytes (g.S.Store.state c.args.self.now.store).bytes refl

pub returns-in-Ok-append_formatted-clause-formatted : goal.returns-in-Ok-append_formatted-clause-formatted
returns-in-Ok-append_formatted-clause-formatted g c = left_whole (formatted c.args.spec.now) (g.S.Store.state c.args.self.now.store).bytes (g.S.Store.state c.reset.new.self).bytes (g.S.Store.state c.append_formatted.new.store).bytes c.in-Ok-reset.ensures.empty c.in-Ok-append_formatted.ensures.appended

pub returns-in-Err-Memory-clause-short : goal.returns-in-Err-Memory-clause-short
returns-in-Err-Memory-clause-short g c = λ is.
    left_short c.args.spec.now (g.S.Store.state c.args.self.now.store).bytes (g.S.Store.state c.reset.new.self).bytes (g.S.Store.state c.append_formatted.new.store).bytes c.requires.layout c.in-Ok-reset.ensures.empty (c.in-Err-Memory.ensures.short (ap Err c.in-Err-Memory.field-0-is))
