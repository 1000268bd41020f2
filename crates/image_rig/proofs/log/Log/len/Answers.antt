use Rattle.std.proofs.Common.{arith}
use Rattle.image_rig.specs.Entries.{entries_length}
use Rattle.image_rig.proofs.log.Log.len.Goals as goal

pub returns : goal.returns
returns c =
    let e = entries_length c.args.self.now.labels.items c.args.self.now.moved.items c.args.self.now.kept.items in
    omega (arith, e, c.len.ensures)
