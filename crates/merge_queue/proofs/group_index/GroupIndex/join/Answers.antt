use Rattle.std.proofs.Common.{arith}
use Rattle.merge_queue.proofs.Held.{held-sizes, found, known-held, fit-held, join-held}
use Rattle.merge_queue.proofs.group_index.GroupIndex.join.Goals as goal

pub index-requires : goal.index-requires
index-requires c =
    let s = held-sizes c.self.inside.room c.self.inside.begins.items c.self.inside.places.items c.self.inside.entries.items c.self.inside.bios.items c.self.inside.next.items c.self.inside.free c.self.inside.left c.args.self.now c.self.invariant.0 c.self.view_is in
    let f = found c.self.inside.room c.self.inside.begins.items c.self.inside.places.items c.self.inside.entries.items c.self.inside.bios.items c.self.inside.next.items c.self.inside.free c.self.inside.left c.args.i c.index-first.result.now c.self.invariant.0 (omega (arith, s)) c.index-first.ensures in
    omega (arith, f.inside, c.self.invariant.0.entries_long)

pub index-requires-2 : goal.index-requires-2
index-requires-2 c =
    let s = held-sizes c.self.inside.room c.self.inside.begins.items c.self.inside.places.items c.self.inside.entries.items c.self.inside.bios.items c.self.inside.next.items c.self.inside.free c.self.inside.left c.args.self.now c.self.invariant.0 c.self.view_is in
    let f = found c.self.inside.room c.self.inside.begins.items c.self.inside.places.items c.self.inside.entries.items c.self.inside.bios.items c.self.inside.next.items c.self.inside.free c.self.inside.left c.args.j c.index-second.result.now c.self.invariant.0 (omega (arith, s)) c.index-second.ensures in
    omega (arith, f.inside, c.self.invariant.0.entries_long)

pub overflow_cast-front : goal.overflow_cast-front
overflow_cast-front c =
    let s = held-sizes c.self.inside.room c.self.inside.begins.items c.self.inside.places.items c.self.inside.entries.items c.self.inside.bios.items c.self.inside.next.items c.self.inside.free c.self.inside.left c.args.self.now c.self.invariant.0 c.self.view_is in
    let a = known-held c.self.inside.room c.self.inside.begins.items c.self.inside.places.items c.self.inside.entries.items c.self.inside.bios.items c.self.inside.next.items c.self.inside.free c.self.inside.left c.args.i c.index-first.result.now c.index.result.now c.self.invariant.0 (omega (arith, s)) c.index-first.ensures c.index.ensures in
    omega (arith, a.last, s.small)

pub index_mut-requires : goal.index_mut-requires
index_mut-requires c =
    let s = held-sizes c.self.inside.room c.self.inside.begins.items c.self.inside.places.items c.self.inside.entries.items c.self.inside.bios.items c.self.inside.next.items c.self.inside.free c.self.inside.left c.args.self.now c.self.invariant.0 c.self.view_is in
    let a = known-held c.self.inside.room c.self.inside.begins.items c.self.inside.places.items c.self.inside.entries.items c.self.inside.bios.items c.self.inside.next.items c.self.inside.free c.self.inside.left c.args.i c.index-first.result.now c.index.result.now c.self.invariant.0 (omega (arith, s)) c.index-first.ensures c.index.ensures in
    omega (arith, a.last, c.self.invariant.0.index.next_long)

pub both_entries-requires : goal.both_entries-requires
both_entries-requires c =
    let s = held-sizes c.self.inside.room c.self.inside.begins.items c.self.inside.places.items c.self.inside.entries.items c.self.inside.bios.items c.self.inside.next.items c.self.inside.free c.self.inside.left c.args.self.now c.self.invariant.0 c.self.view_is in
    fit-held c.self.inside.room c.self.inside.begins.items c.self.inside.places.items c.self.inside.entries.items c.self.inside.bios.items c.self.inside.next.items c.self.inside.free c.self.inside.left c.args.i c.args.j c.index-first.result.now c.index-second.result.now c.index.result.now c.index-2.result.now c.self.invariant.0 (omega (arith, s)) (omega (arith, s)) c.requires.other c.index-first.ensures c.index-second.ensures c.index.ensures c.index-2.ensures

pub index_mut-requires-2 : goal.index_mut-requires-2
index_mut-requires-2 c =
    let s = held-sizes c.self.inside.room c.self.inside.begins.items c.self.inside.places.items c.self.inside.entries.items c.self.inside.bios.items c.self.inside.next.items c.self.inside.free c.self.inside.left c.args.self.now c.self.invariant.0 c.self.view_is in
    let f = found c.self.inside.room c.self.inside.begins.items c.self.inside.places.items c.self.inside.entries.items c.self.inside.bios.items c.self.inside.next.items c.self.inside.free c.self.inside.left c.args.i c.index-first.result.now c.self.invariant.0 (omega (arith, s)) c.index-first.ensures in
    omega (arith, f.inside, c.self.invariant.0.entries_long)

pub remove-begin-requires : goal.remove-begin-requires
remove-begin-requires c =
    let s = held-sizes c.self.inside.room c.self.inside.begins.items c.self.inside.places.items c.self.inside.entries.items c.self.inside.bios.items c.self.inside.next.items c.self.inside.free c.self.inside.left c.args.self.now c.self.invariant.0 c.self.view_is in
    omega (arith, s)

pub invariant_of-self : goal.invariant_of-self
invariant_of-self c =
    let s = held-sizes c.self.inside.room c.self.inside.begins.items c.self.inside.places.items c.self.inside.entries.items c.self.inside.bios.items c.self.inside.next.items c.self.inside.free c.self.inside.left c.args.self.now c.self.invariant.0 c.self.view_is in
    let w = join-held c.self.inside.room c.self.inside.begins.items c.remove-begin.new.self.items c.self.inside.places.items c.remove-place.new.self.items c.self.inside.entries.items c.self.inside.bios.items c.self.inside.next.items
    c.self.inside.free c.self.inside.left c.args.i c.args.j c.args.self.now c.index-first.result.now c.index-second.result.now c.index.result.now c.index-2.result.now c.both_entries.result c.self.invariant.0 c.self.view_is (omega (arith, s)) (omega (arith, s)) c.requires.other
    c.index-first.ensures c.index-second.ensures c.index.ensures c.index-2.ensures c.requires.behind c.both_entries.ensures c.remove-begin.ensures.items c.remove-place.ensures.items in
    (w.index, omega arith, omega arith)

pub returns-clause-groups : goal.returns-clause-groups
returns-clause-groups c =
    let s = held-sizes c.self.inside.room c.self.inside.begins.items c.self.inside.places.items c.self.inside.entries.items c.self.inside.bios.items c.self.inside.next.items c.self.inside.free c.self.inside.left c.args.self.now c.self.invariant.0 c.self.view_is in
    (join-held c.self.inside.room c.self.inside.begins.items c.remove-begin.new.self.items c.self.inside.places.items c.remove-place.new.self.items c.self.inside.entries.items c.self.inside.bios.items c.self.inside.next.items
    c.self.inside.free c.self.inside.left c.args.i c.args.j c.args.self.now c.index-first.result.now c.index-second.result.now c.index.result.now c.index-2.result.now c.both_entries.result c.self.invariant.0 c.self.view_is (omega (arith, s)) (omega (arith, s)) c.requires.other
    c.index-first.ensures c.index-second.ensures c.index.ensures c.index-2.ensures c.requires.behind c.both_entries.ensures c.remove-begin.ensures.items c.remove-place.ensures.items).groups
