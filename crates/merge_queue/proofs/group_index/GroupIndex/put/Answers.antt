use Rattle.std.proofs.Common.{arith, ap, length, ◌∙◌}
use Rattle.merge_queue.specs.Chains.{after}
use Rattle.merge_queue.specs.Index.{entries_of}
use Rattle.merge_queue.proofs.Index.{free-inside}
use Rattle.merge_queue.proofs.Held.{held-sizes, rises, put-held}
use Rattle.merge_queue.proofs.Begins.{put-place}
use Rattle.merge_queue.proofs.group_index.GroupIndex.put.Goals as goal

pub fill-last-requires-clause-places : goal.fill-last-requires-clause-places
fill-last-requires-clause-places c = λ k h.
    let s = held-sizes c.self.inside.room c.self.inside.begins.items c.self.inside.places.items c.self.inside.entries.items c.self.inside.bios.items c.self.inside.next.items c.self.inside.free c.self.inside.left c.args.self.now c.self.invariant.0 c.self.view_is in
    let r = ap (λ q. q.room) c.self.view_is in
    let f = free-inside c.self.inside.room (entries_of c.self.inside.places.items c.self.inside.entries.items) c.self.inside.bios.items c.self.inside.next.items c.self.inside.free c.self.inside.left c.self.invariant.0.index k (omega (arith, s, r)) in
    let e = ap (λ n. after n c.self.inside.free k) c.deref.ensures.value in
    let l = ap length c.deref.ensures.value in
    omega (arith, c.self.invariant.0.index.next_long)

pub place_for-at-requires : goal.place_for-at-requires
place_for-at-requires c =
    rw c.deref-2.ensures.value (rises c.self.inside.room c.self.inside.begins.items c.self.inside.places.items c.self.inside.entries.items c.self.inside.bios.items c.self.inside.next.items c.self.inside.free c.self.inside.left c.self.invariant.0)

pub put_in-requires-clause-within : goal.put_in-requires-clause-within
put_in-requires-clause-within c =
    let e = ap length c.deref-2.ensures.value in
    omega (arith, c.place_for-at.ensures.bound)

pub put_in-requires-clause-room : goal.put_in-requires-clause-room
put_in-requires-clause-room c =
    let s = held-sizes c.self.inside.room c.self.inside.begins.items c.self.inside.places.items c.self.inside.entries.items c.self.inside.bios.items c.self.inside.next.items c.self.inside.free c.self.inside.left c.args.self.now c.self.invariant.0 c.self.view_is in
    let r = ap (λ q. q.room) c.self.view_is in
    omega (arith, s, c.self.invariant.1)

pub put_in-requires-2-clause-within : goal.put_in-requires-2-clause-within
put_in-requires-2-clause-within c =
    let s = held-sizes c.self.inside.room c.self.inside.begins.items c.self.inside.places.items c.self.inside.entries.items c.self.inside.bios.items c.self.inside.next.items c.self.inside.free c.self.inside.left c.args.self.now c.self.invariant.0 c.self.view_is in
    let e = ap length c.deref-2.ensures.value in
    omega (arith, c.place_for-at.ensures.bound, s)

pub put_in-requires-2-clause-room : goal.put_in-requires-2-clause-room
put_in-requires-2-clause-room c =
    let s = held-sizes c.self.inside.room c.self.inside.begins.items c.self.inside.places.items c.self.inside.entries.items c.self.inside.bios.items c.self.inside.next.items c.self.inside.free c.self.inside.left c.args.self.now c.self.invariant.0 c.self.view_is in
    let r = ap (λ q. q.room) c.self.view_is in
    omega (arith, s, c.self.invariant.2)

pub index_mut-requires : goal.index_mut-requires
index_mut-requires c =
    let s = held-sizes c.self.inside.room c.self.inside.begins.items c.self.inside.places.items c.self.inside.entries.items c.self.inside.bios.items c.self.inside.next.items c.self.inside.free c.self.inside.left c.args.self.now c.self.invariant.0 c.self.view_is in
    let r = ap (λ q. q.room) c.self.view_is in
    let f = free-inside c.self.inside.room (entries_of c.self.inside.places.items c.self.inside.entries.items) c.self.inside.bios.items c.self.inside.next.items c.self.inside.free c.self.inside.left c.self.invariant.0.index 0 (omega (arith, s, r)) in
    omega (arith, c.self.invariant.0.entries_long)

pub overflow_sub-self : goal.overflow_sub-self
overflow_sub-self c =
    let s = held-sizes c.self.inside.room c.self.inside.begins.items c.self.inside.places.items c.self.inside.entries.items c.self.inside.bios.items c.self.inside.next.items c.self.inside.free c.self.inside.left c.args.self.now c.self.invariant.0 c.self.view_is in
    let r = ap (λ q. q.room) c.self.view_is in
    omega (arith, s)

pub invariant_of-self : goal.invariant_of-self
invariant_of-self c =
    let s = held-sizes c.self.inside.room c.self.inside.begins.items c.self.inside.places.items c.self.inside.entries.items c.self.inside.bios.items c.self.inside.next.items c.self.inside.free c.self.inside.left c.args.self.now c.self.invariant.0 c.self.view_is in
    let r = ap (λ q. q.room) c.self.view_is in
    let w = put-held c.self.inside.room c.self.inside.begins.items c.put_in.new.list.items c.deref-2.result.now c.self.inside.places.items c.put_in-2.new.list.items c.self.inside.entries.items
    c.self.inside.bios.items c.deref_mut.result.now c.fill-last.new.bios c.self.inside.next.items c.deref.result.now c.self.inside.free c.self.inside.left c.place_for-at.result c.fill-last.result.1 c.self.inside.bios.len
    c.args.self.now c.entry_of-entry.result c.args.run.now c.self.invariant.0 c.self.view_is c.deref-2.ensures.value c.deref_mut.ensures.value c.deref.ensures.value (omega arith)
    c.place_for-at.ensures.bound c.place_for-at.ensures.before c.place_for-at.ensures.after c.entry_of-entry.ensures.describes c.entry_of-entry.ensures.first (c.entry_of-entry.ensures.last ∙ c.fill-last.ensures.last)
    (omega (arith, s, r)) c.fill-last.ensures.behind c.fill-last.ensures.bios c.put_in.ensures.items c.put_in-2.ensures.items in
    (w.index, omega arith, omega arith)

pub returns-clause-groups : goal.returns-clause-groups
returns-clause-groups c =
    let s = held-sizes c.self.inside.room c.self.inside.begins.items c.self.inside.places.items c.self.inside.entries.items c.self.inside.bios.items c.self.inside.next.items c.self.inside.free c.self.inside.left c.args.self.now c.self.invariant.0 c.self.view_is in
    let r = ap (λ q. q.room) c.self.view_is in
    (put-held c.self.inside.room c.self.inside.begins.items c.put_in.new.list.items c.deref-2.result.now c.self.inside.places.items c.put_in-2.new.list.items c.self.inside.entries.items
    c.self.inside.bios.items c.deref_mut.result.now c.fill-last.new.bios c.self.inside.next.items c.deref.result.now c.self.inside.free c.self.inside.left c.place_for-at.result c.fill-last.result.1 c.self.inside.bios.len
    c.args.self.now c.entry_of-entry.result c.args.run.now c.self.invariant.0 c.self.view_is c.deref-2.ensures.value c.deref_mut.ensures.value c.deref.ensures.value (omega arith)
    c.place_for-at.ensures.bound c.place_for-at.ensures.before c.place_for-at.ensures.after c.entry_of-entry.ensures.describes c.entry_of-entry.ensures.first (c.entry_of-entry.ensures.last ∙ c.fill-last.ensures.last)
    (omega (arith, s, r)) c.fill-last.ensures.behind c.fill-last.ensures.bios c.put_in.ensures.items c.put_in-2.ensures.items).groups

pub overflow_cast-result : goal.overflow_cast-result
overflow_cast-result c =
    let s = held-sizes c.self.inside.room c.self.inside.begins.items c.self.inside.places.items c.self.inside.entries.items c.self.inside.bios.items c.self.inside.next.items c.self.inside.free c.self.inside.left c.args.self.now c.self.invariant.0 c.self.view_is in
    let e = ap length c.deref-2.ensures.value in
    omega (arith, c.place_for-at.ensures.bound, s)

pub returns-clause-bound : goal.returns-clause-bound
returns-clause-bound c =
    let s = held-sizes c.self.inside.room c.self.inside.begins.items c.self.inside.places.items c.self.inside.entries.items c.self.inside.bios.items c.self.inside.next.items c.self.inside.free c.self.inside.left c.args.self.now c.self.invariant.0 c.self.view_is in
    let e = ap length c.deref-2.ensures.value in
    omega (arith, c.place_for-at.ensures.bound, s)

pub returns-clause-place : goal.returns-clause-place
returns-clause-place c =
    returns-clause-groups c
    ∙ put-place c.self.inside.room c.self.inside.begins.items c.deref-2.result.now c.self.inside.places.items c.self.inside.entries.items c.self.inside.bios.items c.self.inside.next.items c.self.inside.free c.self.inside.left
    c.place_for-at.result c.entry_of-entry.result.lba c.args.self.now c.args.run.now c.self.invariant.0 c.self.view_is c.deref-2.ensures.value c.place_for-at.ensures.bound c.entry_of-entry.ensures.describes.lba
    c.place_for-at.ensures.before c.place_for-at.ensures.after
