use Rattle.std.proofs.Common.{arith, ap, sym, length, ◌∙◌, ◌++◌}
use Rattle.merge_queue.specs.Chains.{after, bios_at, path}
use Rattle.merge_queue.specs.Groups.{group_in}
use Rattle.merge_queue.proofs.Held.{held-sizes, found, known-held, own-place, take-held}
use Rattle.merge_queue.proofs.group_index.GroupIndex.take.Goals as goal

pub remove-begin-requires : goal.remove-begin-requires
remove-begin-requires c =
    let s = held-sizes c.self.inside.room c.self.inside.begins.items c.self.inside.places.items c.self.inside.entries.items c.self.inside.bios.items c.self.inside.next.items c.self.inside.free c.self.inside.left c.args.self.now c.self.invariant.0 c.self.view_is in
    omega (arith, s)

pub index-entry-requires : goal.index-entry-requires
index-entry-requires c =
    let s = held-sizes c.self.inside.room c.self.inside.begins.items c.self.inside.places.items c.self.inside.entries.items c.self.inside.bios.items c.self.inside.next.items c.self.inside.free c.self.inside.left c.args.self.now c.self.invariant.0 c.self.view_is in
    let f = found c.self.inside.room c.self.inside.begins.items c.self.inside.places.items c.self.inside.entries.items c.self.inside.bios.items c.self.inside.next.items c.self.inside.free c.self.inside.left c.args.i c.remove-first.result c.self.invariant.0 (omega (arith, s)) c.remove-first.ensures.value in
    omega (arith, f.inside, c.self.invariant.0.entries_long)

pub copy_out-requires-clause-places : goal.copy_out-requires-clause-places
copy_out-requires-clause-places c = λ k h.
    let s = held-sizes c.self.inside.room c.self.inside.begins.items c.self.inside.places.items c.self.inside.entries.items c.self.inside.bios.items c.self.inside.next.items c.self.inside.free c.self.inside.left c.args.self.now c.self.invariant.0 c.self.view_is in
    let e = known-held c.self.inside.room c.self.inside.begins.items c.self.inside.places.items c.self.inside.entries.items c.self.inside.bios.items c.self.inside.next.items c.self.inside.free c.self.inside.left c.args.i c.remove-first.result c.index-entry.result.now c.self.invariant.0 (omega (arith, s)) c.remove-first.ensures.value c.index-entry.ensures in
    let o = own-place c.self.inside.room c.self.inside.begins.items c.self.inside.places.items c.self.inside.entries.items c.self.inside.bios.items c.self.inside.next.items c.self.inside.free c.self.inside.left c.args.i c.remove-first.result c.index-entry.result.now c.self.invariant.0 (omega (arith, s)) c.remove-first.ensures.value c.index-entry.ensures in
    let t = ap (λ p. after c.self.inside.next.items p k) o in
    let p = e.places k h in
    let a = ap (λ n. after n c.remove-first.result k) c.deref-2.ensures.value in
    let l = ap length c.deref-2.ensures.value in
    omega (arith, c.self.invariant.0.index.next_long)

pub copy_out-requires-clause-room : goal.copy_out-requires-clause-room
copy_out-requires-clause-room c =
    let s = held-sizes c.self.inside.room c.self.inside.begins.items c.self.inside.places.items c.self.inside.entries.items c.self.inside.bios.items c.self.inside.next.items c.self.inside.free c.self.inside.left c.args.self.now c.self.invariant.0 c.self.view_is in
    let e = known-held c.self.inside.room c.self.inside.begins.items c.self.inside.places.items c.self.inside.entries.items c.self.inside.bios.items c.self.inside.next.items c.self.inside.free c.self.inside.left c.args.i c.remove-first.result c.index-entry.result.now c.self.invariant.0 (omega (arith, s)) c.remove-first.ensures.value c.index-entry.ensures in
    let g = ap (λ q. length (group_in q.groups c.args.i)) c.self.view_is in
    let b = ap length e.group in
    omega (arith, e.stands.describes.bios)

pub index_mut-requires : goal.index_mut-requires
index_mut-requires c =
    let s = held-sizes c.self.inside.room c.self.inside.begins.items c.self.inside.places.items c.self.inside.entries.items c.self.inside.bios.items c.self.inside.next.items c.self.inside.free c.self.inside.left c.args.self.now c.self.invariant.0 c.self.view_is in
    let e = known-held c.self.inside.room c.self.inside.begins.items c.self.inside.places.items c.self.inside.entries.items c.self.inside.bios.items c.self.inside.next.items c.self.inside.free c.self.inside.left c.args.i c.remove-first.result c.index-entry.result.now c.self.invariant.0 (omega (arith, s)) c.remove-first.ensures.value c.index-entry.ensures in
    omega (arith, e.last, c.self.invariant.0.index.next_long)

pub overflow_add-self : goal.overflow_add-self
overflow_add-self c =
    let s = held-sizes c.self.inside.room c.self.inside.begins.items c.self.inside.places.items c.self.inside.entries.items c.self.inside.bios.items c.self.inside.next.items c.self.inside.free c.self.inside.left c.args.self.now c.self.invariant.0 c.self.view_is in
    let e = known-held c.self.inside.room c.self.inside.begins.items c.self.inside.places.items c.self.inside.entries.items c.self.inside.bios.items c.self.inside.next.items c.self.inside.free c.self.inside.left c.args.i c.remove-first.result c.index-entry.result.now c.self.invariant.0 (omega (arith, s)) c.remove-first.ensures.value c.index-entry.ensures in
    omega (arith, e.few, s.small)

pub invariant_of-self : goal.invariant_of-self
invariant_of-self c =
    let s = held-sizes c.self.inside.room c.self.inside.begins.items c.self.inside.places.items c.self.inside.entries.items c.self.inside.bios.items c.self.inside.next.items c.self.inside.free c.self.inside.left c.args.self.now c.self.invariant.0 c.self.view_is in
    let w = take-held c.self.inside.room c.self.inside.begins.items c.remove-begin.new.self.items c.self.inside.places.items c.remove-first.new.self.items c.self.inside.entries.items c.self.inside.bios.items c.self.inside.next.items
    c.self.inside.free c.self.inside.left c.args.i c.args.self.now c.remove-first.result c.index-entry.result.now c.self.invariant.0 c.self.view_is (omega (arith, s)) c.remove-first.ensures.value c.index-entry.ensures
    c.remove-begin.ensures.items c.remove-first.ensures.items in
    (w.index, omega arith, omega arith)

pub returns-clause-groups : goal.returns-clause-groups
returns-clause-groups c =
    let s = held-sizes c.self.inside.room c.self.inside.begins.items c.self.inside.places.items c.self.inside.entries.items c.self.inside.bios.items c.self.inside.next.items c.self.inside.free c.self.inside.left c.args.self.now c.self.invariant.0 c.self.view_is in
    (take-held c.self.inside.room c.self.inside.begins.items c.remove-begin.new.self.items c.self.inside.places.items c.remove-first.new.self.items c.self.inside.entries.items c.self.inside.bios.items c.self.inside.next.items
    c.self.inside.free c.self.inside.left c.args.i c.args.self.now c.remove-first.result c.index-entry.result.now c.self.invariant.0 c.self.view_is (omega (arith, s)) c.remove-first.ensures.value c.index-entry.ensures
    c.remove-begin.ensures.items c.remove-first.ensures.items).groups

pub returns-clause-into : goal.returns-clause-into
returns-clause-into c =
    let s = held-sizes c.self.inside.room c.self.inside.begins.items c.self.inside.places.items c.self.inside.entries.items c.self.inside.bios.items c.self.inside.next.items c.self.inside.free c.self.inside.left c.args.self.now c.self.invariant.0 c.self.view_is in
    let e = known-held c.self.inside.room c.self.inside.begins.items c.self.inside.places.items c.self.inside.entries.items c.self.inside.bios.items c.self.inside.next.items c.self.inside.free c.self.inside.left c.args.i c.remove-first.result c.index-entry.result.now c.self.invariant.0 (omega (arith, s)) c.remove-first.ensures.value c.index-entry.ensures in
    let f = found c.self.inside.room c.self.inside.begins.items c.self.inside.places.items c.self.inside.entries.items c.self.inside.bios.items c.self.inside.next.items c.self.inside.free c.self.inside.left c.args.i c.remove-first.result c.self.invariant.0 (omega (arith, s)) c.remove-first.ensures.value in
    let o = own-place c.self.inside.room c.self.inside.begins.items c.self.inside.places.items c.self.inside.entries.items c.self.inside.bios.items c.self.inside.next.items c.self.inside.free c.self.inside.left c.args.i c.remove-first.result c.index-entry.result.now c.self.invariant.0 (omega (arith, s)) c.remove-first.ensures.value c.index-entry.ensures in
    c.copy_out.ensures.into
    ∙ ap (λ b. c.args.into.now.items ++ bios_at b (path c.deref-2.result.now c.remove-first.result c.index-entry.result.now.bios)) c.deref.ensures.value
    ∙ ap (λ n. c.args.into.now.items ++ bios_at c.self.inside.bios.items (path n c.remove-first.result c.index-entry.result.now.bios)) c.deref-2.ensures.value
    ∙ ap (λ k. c.args.into.now.items ++ bios_at c.self.inside.bios.items (path c.self.inside.next.items k c.index-entry.result.now.bios)) o
    ∙ ap (λ g. c.args.into.now.items ++ g) (sym e.group)
    ∙ ap (λ q. c.args.into.now.items ++ group_in q.groups c.args.i) c.self.view_is
