use Rattle.std.proofs.Common.{◌≡◌, ◌∙◌, ap, arith}
use Rattle.rig_api.specs.Telling.{greatest}
use Rattle.image_rig.specs.Heads.{head_in}
use Rattle.image_rig.proofs.Devices.{greatest_small}
use Rattle.image_rig.proofs.calls.ImageRigRig.reserve.Goals as goal

pub reserve-requires : goal.reserve-requires
reserve-requires g c =
    let e : c.greatest_size.result ≡ greatest c.args.self.now.units.items = c.greatest_size.ensures ∙ ap greatest c.deref.ensures.0 in
    let s = greatest_small c.args.self.now.units.items (head_in c.args.self.now.head) c.args.self.now.right c.args.self.now.devices in
    omega (arith, e, s)
