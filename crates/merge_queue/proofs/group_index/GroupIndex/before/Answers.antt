use Rattle.std.proofs.Common.{arith, length, ap}
use Rattle.merge_queue.proofs.Held.{held-sizes, rises}
use Rattle.merge_queue.proofs.Begins.{before-whole}
use Rattle.merge_queue.proofs.group_index.GroupIndex.before.Goals as goal

pub index-begin-requires : goal.index-begin-requires
index-begin-requires c =
    let s = held-sizes c.self.inside.room c.self.inside.begins.items c.self.inside.places.items c.self.inside.entries.items c.self.inside.bios.items c.self.inside.next.items c.self.inside.free c.self.inside.left c.args.self.now c.self.invariant.0 c.self.view_is in
    omega (arith, s)

pub place_before_near-from-requires : goal.place_before_near-from-requires
place_before_near-from-requires c =
    rw c.deref.ensures.value (rises c.self.inside.room c.self.inside.begins.items c.self.inside.places.items c.self.inside.entries.items c.self.inside.bios.items c.self.inside.next.items c.self.inside.free c.self.inside.left c.self.invariant.0)

pub place_for_near-to-requires-clause-rise : goal.place_for_near-to-requires-clause-rise
place_for_near-to-requires-clause-rise c =
    rw c.deref-2.ensures.value (rises c.self.inside.room c.self.inside.begins.items c.self.inside.places.items c.self.inside.entries.items c.self.inside.bios.items c.self.inside.next.items c.self.inside.free c.self.inside.left c.self.invariant.0)

pub place_for_near-to-requires-clause-near : goal.place_for_near-to-requires-clause-near
place_for_near-to-requires-clause-near c =
    let s = held-sizes c.self.inside.room c.self.inside.begins.items c.self.inside.places.items c.self.inside.entries.items c.self.inside.bios.items c.self.inside.next.items c.self.inside.free c.self.inside.left c.args.self.now c.self.invariant.0 c.self.view_is in
    let e = ap length c.deref-2.ensures.value in
    omega (arith, s)

pub overflow_cast-result : goal.overflow_cast-result
overflow_cast-result c =
    let s = held-sizes c.self.inside.room c.self.inside.begins.items c.self.inside.places.items c.self.inside.entries.items c.self.inside.bios.items c.self.inside.next.items c.self.inside.free c.self.inside.left c.args.self.now c.self.invariant.0 c.self.view_is in
    let e = ap length c.deref.ensures.value in
    omega (arith, s)

pub overflow_cast-result-2 : goal.overflow_cast-result-2
overflow_cast-result-2 c =
    let s = held-sizes c.self.inside.room c.self.inside.begins.items c.self.inside.places.items c.self.inside.entries.items c.self.inside.bios.items c.self.inside.next.items c.self.inside.free c.self.inside.left c.args.self.now c.self.invariant.0 c.self.view_is in
    let e = ap length c.deref-2.ensures.value in
    omega (arith, s)

pub returns-clause-order : goal.returns-clause-order
returns-clause-order c =
    let s = held-sizes c.self.inside.room c.self.inside.begins.items c.self.inside.places.items c.self.inside.entries.items c.self.inside.bios.items c.self.inside.next.items c.self.inside.free c.self.inside.left c.args.self.now c.self.invariant.0 c.self.view_is in
    (before-whole c.self.inside.room c.self.inside.begins.items c.deref.result.now c.deref-2.result.now c.self.inside.places.items c.self.inside.entries.items c.self.inside.bios.items c.self.inside.next.items c.self.inside.free c.self.inside.left
    c.args.self.now c.args.lim.now c.args.i c.index-begin.result.now c.args.most c.min.result c.place_before_near-from.result c.place_for_near-to.result c.self.invariant.0 c.self.view_is c.deref.ensures.value c.deref-2.ensures.value
    (omega (arith, s)) c.index-begin.ensures c.requires.within (omega (arith, c.min.ensures, c.saturating_sub-left.ensures, c.blocks-2.ensures)) c.place_before_near-from.ensures.bound c.place_for_near-to.ensures.bound
    (λ k d h. (let e = c.place_before_near-from.ensures.before k d h in omega arith)) c.place_for_near-to.ensures.after).0

pub returns-clause-bound : goal.returns-clause-bound
returns-clause-bound c =
    let s = held-sizes c.self.inside.room c.self.inside.begins.items c.self.inside.places.items c.self.inside.entries.items c.self.inside.bios.items c.self.inside.next.items c.self.inside.free c.self.inside.left c.args.self.now c.self.invariant.0 c.self.view_is in
    let e = ap length c.deref-2.ensures.value in
    omega (arith, s)

pub returns-clause-groups : goal.returns-clause-groups
returns-clause-groups c =
    let s = held-sizes c.self.inside.room c.self.inside.begins.items c.self.inside.places.items c.self.inside.entries.items c.self.inside.bios.items c.self.inside.next.items c.self.inside.free c.self.inside.left c.args.self.now c.self.invariant.0 c.self.view_is in
    omega (arith, s)

pub returns-clause-only : goal.returns-clause-only
returns-clause-only c =
    let s = held-sizes c.self.inside.room c.self.inside.begins.items c.self.inside.places.items c.self.inside.entries.items c.self.inside.bios.items c.self.inside.next.items c.self.inside.free c.self.inside.left c.args.self.now c.self.invariant.0 c.self.view_is in
    (before-whole c.self.inside.room c.self.inside.begins.items c.deref.result.now c.deref-2.result.now c.self.inside.places.items c.self.inside.entries.items c.self.inside.bios.items c.self.inside.next.items c.self.inside.free c.self.inside.left
    c.args.self.now c.args.lim.now c.args.i c.index-begin.result.now c.args.most c.min.result c.place_before_near-from.result c.place_for_near-to.result c.self.invariant.0 c.self.view_is c.deref.ensures.value c.deref-2.ensures.value
    (omega (arith, s)) c.index-begin.ensures c.requires.within (omega (arith, c.min.ensures, c.saturating_sub-left.ensures, c.blocks-2.ensures)) c.place_before_near-from.ensures.bound c.place_for_near-to.ensures.bound
    (λ k d h. (let e = c.place_before_near-from.ensures.before k d h in omega arith)) c.place_for_near-to.ensures.after).1

pub returns-clause-none : goal.returns-clause-none
returns-clause-none c =
    let s = held-sizes c.self.inside.room c.self.inside.begins.items c.self.inside.places.items c.self.inside.entries.items c.self.inside.bios.items c.self.inside.next.items c.self.inside.free c.self.inside.left c.args.self.now c.self.invariant.0 c.self.view_is in
    (before-whole c.self.inside.room c.self.inside.begins.items c.deref.result.now c.deref-2.result.now c.self.inside.places.items c.self.inside.entries.items c.self.inside.bios.items c.self.inside.next.items c.self.inside.free c.self.inside.left
    c.args.self.now c.args.lim.now c.args.i c.index-begin.result.now c.args.most c.min.result c.place_before_near-from.result c.place_for_near-to.result c.self.invariant.0 c.self.view_is c.deref.ensures.value c.deref-2.ensures.value
    (omega (arith, s)) c.index-begin.ensures c.requires.within (omega (arith, c.min.ensures, c.saturating_sub-left.ensures, c.blocks-2.ensures)) c.place_before_near-from.ensures.bound c.place_for_near-to.ensures.bound
    (λ k d h. (let e = c.place_before_near-from.ensures.before k d h in omega arith)) c.place_for_near-to.ensures.after).2
