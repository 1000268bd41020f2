use Rattle.std.proofs.Common.{take, drop, ap, ◌∙◌, arith}
use Rattle.image_rig.specs.Entries.{entries_length}
use Rattle.image_rig.proofs.Keeping.{inside_at, entry_is}
use Rattle.image_rig.proofs.log.Log.labels.Goals as goal

pub index-k-requires : goal.index-k-requires
index-k-requires c =
    let e = entries_length c.args.self.now.labels.items c.args.self.now.moved.items c.args.self.now.kept.items in
    omega (arith, e, c.requires)

pub cut-requires : goal.cut-requires
cut-requires c =
    let e = entries_length c.args.self.now.labels.items c.args.self.now.moved.items c.args.self.now.kept.items in
    let k = inside_at _ _ c.args.self.now.kept.items c.args.i c.index-k.result.now c.args.self.now.inside (omega (arith, e, c.requires)) c.index-k.ensures in
    rw c.deref.ensures.value k.0

pub returns : goal.returns
returns c =
    let n = entries_length c.args.self.now.labels.items c.args.self.now.moved.items c.args.self.now.kept.items in
    let e = entry_is c.args.self.now.labels.items c.args.self.now.moved.items c.args.self.now.kept.items c.args.i c.index-k.result.now (omega (arith, n, c.requires)) c.index-k.ensures in
    rw e (c.cut.ensures ∙ ap (λ v. take c.index-k.result.now.labels_len (drop c.index-k.result.now.labels_at v)) c.deref.ensures.value)
