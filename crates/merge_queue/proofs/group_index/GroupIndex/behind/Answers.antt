use Rattle.std.proofs.Common.{arith, length, ap}
use Rattle.merge_queue.specs.Index.{entries_of}
use Rattle.merge_queue.proofs.Held.{held-sizes, found, known-held, read, rises}
use Rattle.merge_queue.proofs.Joins.{behind-whole}
use Rattle.merge_queue.proofs.group_index.GroupIndex.behind.Goals as goal

pub index-entry-requires : goal.index-entry-requires
index-entry-requires c =
    let s = held-sizes c.self.inside.room c.self.inside.begins.items c.self.inside.places.items c.self.inside.entries.items c.self.inside.bios.items c.self.inside.next.items c.self.inside.free c.self.inside.left c.args.self.now c.self.invariant.0 c.self.view_is in
    let f = found c.self.inside.room c.self.inside.begins.items c.self.inside.places.items c.self.inside.entries.items c.self.inside.bios.items c.self.inside.next.items c.self.inside.free c.self.inside.left c.args.i c.index-place.result.now c.self.invariant.0 (omega (arith, s)) c.index-place.ensures in
    omega (arith, f.inside, c.self.invariant.0.entries_long)

pub overflow_add-end : goal.overflow_add-end
overflow_add-end c =
    let s = held-sizes c.self.inside.room c.self.inside.begins.items c.self.inside.places.items c.self.inside.entries.items c.self.inside.bios.items c.self.inside.next.items c.self.inside.free c.self.inside.left c.args.self.now c.self.invariant.0 c.self.view_is in
    let e = known-held c.self.inside.room c.self.inside.begins.items c.self.inside.places.items c.self.inside.entries.items c.self.inside.bios.items c.self.inside.next.items c.self.inside.free c.self.inside.left c.args.i c.index-place.result.now c.index-entry.result.now c.self.invariant.0 (omega (arith, s)) c.index-place.ensures c.index-entry.ensures in
    omega (arith, e.stands.describes.ends)

pub place_before-from-requires : goal.place_before-from-requires
place_before-from-requires c =
    rw c.deref.ensures.value (rises c.self.inside.room c.self.inside.begins.items c.self.inside.places.items c.self.inside.entries.items c.self.inside.bios.items c.self.inside.next.items c.self.inside.free c.self.inside.left c.self.invariant.0)

pub place_for_near-to-requires-clause-rise : goal.place_for_near-to-requires-clause-rise
place_for_near-to-requires-clause-rise c =
    rw c.deref-2.ensures.value (rises c.self.inside.room c.self.inside.begins.items c.self.inside.places.items c.self.inside.entries.items c.self.inside.bios.items c.self.inside.next.items c.self.inside.free c.self.inside.left c.self.invariant.0)

pub overflow_cast-result : goal.overflow_cast-result
overflow_cast-result c =
    let s = held-sizes c.self.inside.room c.self.inside.begins.items c.self.inside.places.items c.self.inside.entries.items c.self.inside.bios.items c.self.inside.next.items c.self.inside.free c.self.inside.left c.args.self.now c.self.invariant.0 c.self.view_is in
    let e = ap length c.deref.ensures.value in
    omega (arith, s)

pub overflow_cast-result-2 : goal.overflow_cast-result-2
overflow_cast-result-2 c =
    let s = held-sizes c.self.inside.room c.self.inside.begins.items c.self.inside.places.items c.self.inside.entries.items c.self.inside.bios.items c.self.inside.next.items c.self.inside.free c.self.inside.left c.args.self.now c.self.invariant.0 c.self.view_is in
    let e = ap length c.deref-2.ensures.value in
    omega (arith, s)

pub returns-clause-order : goal.returns-clause-order
returns-clause-order c =
    let s = held-sizes c.self.inside.room c.self.inside.begins.items c.self.inside.places.items c.self.inside.entries.items c.self.inside.bios.items c.self.inside.next.items c.self.inside.free c.self.inside.left c.args.self.now c.self.invariant.0 c.self.view_is in
    let f = found c.self.inside.room c.self.inside.begins.items c.self.inside.places.items c.self.inside.entries.items c.self.inside.bios.items c.self.inside.next.items c.self.inside.free c.self.inside.left c.args.i c.index-place.result.now c.self.invariant.0 (omega (arith, s)) c.index-place.ensures in
    (behind-whole c.self.inside.room (entries_of c.self.inside.places.items c.self.inside.entries.items) c.self.inside.bios.items c.self.inside.next.items c.self.inside.free c.self.inside.left c.args.self.now
    c.self.inside.begins.items c.deref.result.now c.deref-2.result.now c.args.i c.place_before-from.result c.place_for_near-to.result c.index-entry.result.now c.self.invariant.0.index c.self.view_is c.self.invariant.0.begins_of f.within
    (read c.self.inside.room c.self.inside.begins.items c.self.inside.places.items c.self.inside.entries.items c.self.inside.bios.items c.self.inside.next.items c.self.inside.free c.self.inside.left c.args.i c.index-place.result.now c.index-entry.result.now c.self.invariant.0 (omega (arith, s)) c.index-place.ensures c.index-entry.ensures)
    c.deref.ensures.value c.deref-2.ensures.value c.place_before-from.ensures.bound c.place_for_near-to.ensures.bound c.place_before-from.ensures.before c.place_for_near-to.ensures.after).0

pub returns-clause-bound : goal.returns-clause-bound
returns-clause-bound c =
    let s = held-sizes c.self.inside.room c.self.inside.begins.items c.self.inside.places.items c.self.inside.entries.items c.self.inside.bios.items c.self.inside.next.items c.self.inside.free c.self.inside.left c.args.self.now c.self.invariant.0 c.self.view_is in
    let e = ap length c.deref-2.ensures.value in
    omega (arith, s)

pub returns-clause-only : goal.returns-clause-only
returns-clause-only c =
    let s = held-sizes c.self.inside.room c.self.inside.begins.items c.self.inside.places.items c.self.inside.entries.items c.self.inside.bios.items c.self.inside.next.items c.self.inside.free c.self.inside.left c.args.self.now c.self.invariant.0 c.self.view_is in
    let f = found c.self.inside.room c.self.inside.begins.items c.self.inside.places.items c.self.inside.entries.items c.self.inside.bios.items c.self.inside.next.items c.self.inside.free c.self.inside.left c.args.i c.index-place.result.now c.self.invariant.0 (omega (arith, s)) c.index-place.ensures in
    (behind-whole c.self.inside.room (entries_of c.self.inside.places.items c.self.inside.entries.items) c.self.inside.bios.items c.self.inside.next.items c.self.inside.free c.self.inside.left c.args.self.now
    c.self.inside.begins.items c.deref.result.now c.deref-2.result.now c.args.i c.place_before-from.result c.place_for_near-to.result c.index-entry.result.now c.self.invariant.0.index c.self.view_is c.self.invariant.0.begins_of f.within
    (read c.self.inside.room c.self.inside.begins.items c.self.inside.places.items c.self.inside.entries.items c.self.inside.bios.items c.self.inside.next.items c.self.inside.free c.self.inside.left c.args.i c.index-place.result.now c.index-entry.result.now c.self.invariant.0 (omega (arith, s)) c.index-place.ensures c.index-entry.ensures)
    c.deref.ensures.value c.deref-2.ensures.value c.place_before-from.ensures.bound c.place_for_near-to.ensures.bound c.place_before-from.ensures.before c.place_for_near-to.ensures.after).1
