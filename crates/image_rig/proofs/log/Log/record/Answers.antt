use Rattle.std.proofs.Common.{refl, arith}
use Rattle.image_rig.specs.Entries.{entries_length}
use Rattle.image_rig.proofs.Keeping.{entry_is}
use Rattle.image_rig.proofs.log.Log.record.Goals as goal

pub index-requires : goal.index-requires
index-requires c =
    let e = entries_length c.args.self.now.labels.items c.args.self.now.moved.items c.args.self.now.kept.items in
    omega (arith, e, c.requires)

pub returns : goal.returns
returns c =
    let n = entries_length c.args.self.now.labels.items c.args.self.now.moved.items c.args.self.now.kept.items in
    let e = entry_is c.args.self.now.labels.items c.args.self.now.moved.items c.args.self.now.kept.items c.args.i c.index.result.now (omega (arith, n, c.requires)) c.index.ensures in
    rw e refl
