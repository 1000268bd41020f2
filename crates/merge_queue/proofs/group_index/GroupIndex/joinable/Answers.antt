use Rattle.std.proofs.Common.{arith, ap, subst, sym, ◌≡◌, false, eqb}
use Rattle.std.proofs.lemmas.Bool.{ne_eqb}
use Rattle.merge_queue.specs.Index.{Describes}
use Rattle.merge_queue.proofs.Held.{held-sizes, found, known-held, fit-held}
use Rattle.merge_queue.proofs.group_index.GroupIndex.joinable.Goals as goal

pub index-requires : goal.index-requires
index-requires c =
    let s = held-sizes c.self.inside.room c.self.inside.begins.items c.self.inside.places.items c.self.inside.entries.items c.self.inside.bios.items c.self.inside.next.items c.self.inside.free c.self.inside.left c.args.self.now c.self.invariant.0 c.self.view_is in
    let f = found c.self.inside.room c.self.inside.begins.items c.self.inside.places.items c.self.inside.entries.items c.self.inside.bios.items c.self.inside.next.items c.self.inside.free c.self.inside.left c.args.i c.index-a.result.now c.self.invariant.0 (omega (arith, s)) c.index-a.ensures in
    omega (arith, f.inside, c.self.invariant.0.entries_long)

pub index-requires-2 : goal.index-requires-2
index-requires-2 c =
    let s = held-sizes c.self.inside.room c.self.inside.begins.items c.self.inside.places.items c.self.inside.entries.items c.self.inside.bios.items c.self.inside.next.items c.self.inside.free c.self.inside.left c.args.self.now c.self.invariant.0 c.self.view_is in
    let f = found c.self.inside.room c.self.inside.begins.items c.self.inside.places.items c.self.inside.entries.items c.self.inside.bios.items c.self.inside.next.items c.self.inside.free c.self.inside.left c.args.j c.index-b.result.now c.self.invariant.0 (omega (arith, s)) c.index-b.ensures in
    omega (arith, f.inside, c.self.invariant.0.entries_long)

pub may_join-requires : goal.may_join-requires
may_join-requires c =
    let s = held-sizes c.self.inside.room c.self.inside.begins.items c.self.inside.places.items c.self.inside.entries.items c.self.inside.bios.items c.self.inside.next.items c.self.inside.free c.self.inside.left c.args.self.now c.self.invariant.0 c.self.view_is in
    fit-held c.self.inside.room c.self.inside.begins.items c.self.inside.places.items c.self.inside.entries.items c.self.inside.bios.items c.self.inside.next.items c.self.inside.free c.self.inside.left c.args.i c.args.j c.index-a.result.now c.index-b.result.now c.index.result.now c.index-2.result.now c.self.invariant.0 (omega (arith, s)) (omega (arith, s)) c.if-i-j.false c.index-a.ensures c.index-b.ensures c.index.ensures c.index-2.ensures

pub returns : goal.returns
returns c =
    let s = held-sizes c.self.inside.room c.self.inside.begins.items c.self.inside.places.items c.self.inside.entries.items c.self.inside.bios.items c.self.inside.next.items c.self.inside.free c.self.inside.left c.args.self.now c.self.invariant.0 c.self.view_is in
    let a = known-held c.self.inside.room c.self.inside.begins.items c.self.inside.places.items c.self.inside.entries.items c.self.inside.bios.items c.self.inside.next.items c.self.inside.free c.self.inside.left c.args.i c.index-a.result.now c.index.result.now c.self.invariant.0 (omega (arith, s)) c.index-a.ensures c.index.ensures in
    let b = known-held c.self.inside.room c.self.inside.begins.items c.self.inside.places.items c.self.inside.entries.items c.self.inside.bios.items c.self.inside.next.items c.self.inside.free c.self.inside.left c.args.j c.index-b.result.now c.index-2.result.now c.self.invariant.0 (omega (arith, s)) c.index-b.ensures c.index-2.ensures in
    let e : eqb c.args.i c.args.j ≡ false = ne_eqb c.args.i c.args.j c.if-i-j.false in
    let g = ap (λ q. q.groups) c.self.view_is in
    let m = c.may_join.ensures _ _ (subst (Describes c.index.result.now) (sym a.group) a.stands.describes) (subst (Describes c.index-2.result.now) (sym b.group) b.stands.describes) in
    rw e (rw g at m)
