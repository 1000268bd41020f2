use Rattle.std.proofs.Common.{arith}
use Rattle.merge_queue.proofs.Held.{held-sizes}
use Rattle.merge_queue.proofs.group_index.GroupIndex.groups.Goals as goal

pub overflow_cast-result : goal.overflow_cast-result
overflow_cast-result c =
    let s = held-sizes c.self.inside.room c.self.inside.begins.items c.self.inside.places.items c.self.inside.entries.items c.self.inside.bios.items c.self.inside.next.items c.self.inside.free c.self.inside.left c.args.self.now c.self.invariant.0 c.self.view_is in
    omega (arith, s)

pub returns : goal.returns
returns c =
    let s = held-sizes c.self.inside.room c.self.inside.begins.items c.self.inside.places.items c.self.inside.entries.items c.self.inside.bios.items c.self.inside.next.items c.self.inside.free c.self.inside.left c.args.self.now c.self.invariant.0 c.self.view_is in
    omega (arith, s)
