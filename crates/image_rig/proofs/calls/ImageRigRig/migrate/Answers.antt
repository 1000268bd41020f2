use Rattle.image_rig.proofs.Migrates.{keeps_same}
use Rattle.image_rig.proofs.calls.ImageRigRig.migrate.Goals as goal

pub returns-in_err-look-clause-blocks : goal.returns-in_err-look-clause-blocks
returns-in_err-look-clause-blocks g c = rw c.look.ensures.looked.same (keeps_same (g.S.Store.state c.args.self.now.store).bytes)
