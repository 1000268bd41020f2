use Rattle.std.proofs.Common.{arith, ap, sym, ◌∙◌}
use Rattle.merge_queue.specs.Groups.{group_in, size}
use Rattle.merge_queue.proofs.Held.{held-sizes, found, known-held}
use Rattle.merge_queue.proofs.group_index.GroupIndex.blocks.Goals as goal

pub index-requires : goal.index-requires
index-requires c =
    let s = held-sizes c.self.inside.room c.self.inside.begins.items c.self.inside.places.items c.self.inside.entries.items c.self.inside.bios.items c.self.inside.next.items c.self.inside.free c.self.inside.left c.args.self.now c.self.invariant.0 c.self.view_is in
    let f = found c.self.inside.room c.self.inside.begins.items c.self.inside.places.items c.self.inside.entries.items c.self.inside.bios.items c.self.inside.next.items c.self.inside.free c.self.inside.left c.args.i c.index-place.result.now c.self.invariant.0 (omega (arith, s)) c.index-place.ensures in
    omega (arith, f.inside, c.self.invariant.0.entries_long)

pub returns : goal.returns
returns c =
    let s = held-sizes c.self.inside.room c.self.inside.begins.items c.self.inside.places.items c.self.inside.entries.items c.self.inside.bios.items c.self.inside.next.items c.self.inside.free c.self.inside.left c.args.self.now c.self.invariant.0 c.self.view_is in
    let e = known-held c.self.inside.room c.self.inside.begins.items c.self.inside.places.items c.self.inside.entries.items c.self.inside.bios.items c.self.inside.next.items c.self.inside.free c.self.inside.left c.args.i c.index-place.result.now c.index.result.now c.self.invariant.0 (omega (arith, s)) c.index-place.ensures c.index.ensures in
    e.stands.describes.blocks ∙ ap size (sym e.group) ∙ ap (λ q. size (group_in q.groups c.args.i)) c.self.view_is
