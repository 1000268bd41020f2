use Rattle.std.proofs.Common.{◌≡◌, ap, subst, true, ◌∙◌}
use Rattle.std.specs.Prelude.{OnOk, false}
use Rattle.dix_base.specs.Told.{Apart, Becomes}
use Rattle.image_rig.specs.Changes.{IsChanged}
use Rattle.image_rig.specs.Heads.{head_in}
use Rattle.image_rig.specs.LayoutPlaces.{block_len, block_place}
use Rattle.image_rig.specs.Places.{can_change_in}
use Rattle.image_rig.proofs.Changing.{block_behind, can_of, can_where_told, changed_units, left_units, long_as, on_ok}
use Rattle.image_rig.proofs.Devices.{head_kept, is_open}
use Rattle.image_rig.proofs.calls.ImageRigRig.overwrite.Goals as goal
use Rattle.small_laws.proofs.Results.{on_err}

pub change_block-requires-clause-layout : goal.change_block-requires-clause-layout
change_block-requires-clause-layout g c = let o = is_open c.args.self.now.units.items (head_in c.args.self.now.head) (g.S.Store.state c.args.self.now.store).length c.args.dev c.requires.device c.args.self.now.right c.args.self.now.devices c.args.self.now.held in rw c.deref.ensures.0 o.layout

pub change_block-requires-clause-held : goal.change_block-requires-clause-held
change_block-requires-clause-held g c = let o = is_open c.args.self.now.units.items (head_in c.args.self.now.head) (g.S.Store.state c.args.self.now.store).length c.args.dev c.requires.device c.args.self.now.right c.args.self.now.devices c.args.self.now.held in rw c.deref.ensures.0 o.size

pub invariant_of-self-clause-told : goal.invariant_of-self-clause-told
invariant_of-self-clause-told g c = λ some.
    let us = c.deref.result.now in
    head_kept (head_in c.args.self.now.head) (block_place us c.args.dev c.args.lba) (block_len us c.args.dev) (g.S.Store.state c.args.self.now.store).bytes (g.S.Store.state c.change_block.new.store).bytes (block_behind us c.args.dev c.args.lba) c.change_block.ensures.apart (c.args.self.now.told some)

pub returns-clause-changed : goal.returns-clause-changed
returns-clause-changed g c =
    let o = is_open c.args.self.now.units.items (head_in c.args.self.now.head) (g.S.Store.state c.args.self.now.store).length c.args.dev c.requires.device c.args.self.now.right c.args.self.now.devices c.args.self.now.held in
    let us = c.args.self.now.units.items in
    let h = head_in c.args.self.now.head in
    let old = (g.S.Store.state c.args.self.now.store).bytes in
    let new = (g.S.Store.state c.change_block.new.store).bytes in
    let is = subst (λ v. can_change_in v c.args.dev c.args.lba c.args.change.now ≡ true → OnOk c.change_block.result (Becomes (IsChanged v c.args.dev c.args.lba c.args.change.now) old new)) c.deref.ensures.0 c.change_block.ensures.changed in
    on_ok c.change_block.result is (λ made found e.
    let can = can_where_told us h (g.S.Store.state c.args.self.now.store).handed (g.S.Store.state c.args.self.now.store).openings c.args.dev c.args.lba c.args.change.now old found o.named c.requires.place e in
    changed_units us h (g.S.Store.state c.args.self.now.store).length c.args.dev c.args.lba c.args.change.now old new found o c.requires.device c.requires.source can
    (long_as old (g.S.Store.state c.args.self.now.store).length (g.met.S.Store.told c.args.self.now.store)) e (made can))

pub returns-clause-left : goal.returns-clause-left
returns-clause-left g c =
    let o = is_open c.args.self.now.units.items (head_in c.args.self.now.head) (g.S.Store.state c.args.self.now.store).length c.args.dev c.requires.device c.args.self.now.right c.args.self.now.devices c.args.self.now.held in
    let us = c.args.self.now.units.items in
    let h = head_in c.args.self.now.head in
    let old = (g.S.Store.state c.args.self.now.store).bytes in
    let new = (g.S.Store.state c.change_block.new.store).bytes in
    let apart = subst (λ v. Becomes (Apart (block_place v c.args.dev c.args.lba) (block_len v c.args.dev)) old new) c.deref.ensures.0 c.change_block.ensures.apart in
    on_err c.change_block.result (λ found e.
    let can = can_where_told us h (g.S.Store.state c.args.self.now.store).handed (g.S.Store.state c.args.self.now.store).openings c.args.dev c.args.lba c.args.change.now old found o.named c.requires.place e in
    left_units us h (g.S.Store.state c.args.self.now.store).length c.args.dev c.args.lba c.args.change.now old new found o c.requires.device can
    (long_as old (g.S.Store.state c.args.self.now.store).length (g.met.S.Store.told c.args.self.now.store)) e apart)

pub returns-clause-nowhere : goal.returns-clause-nowhere
returns-clause-nowhere g c = λ e.
    let o = is_open c.args.self.now.units.items (head_in c.args.self.now.head) (g.S.Store.state c.args.self.now.store).length c.args.dev c.requires.device c.args.self.now.right c.args.self.now.devices c.args.self.now.held in
    let us = c.args.self.now.units.items in
    let can = can_of us (head_in c.args.self.now.head) (g.S.Store.state c.args.self.now.store).handed (g.S.Store.state c.args.self.now.store).openings c.args.dev c.args.lba c.args.change.now false o.named e in
    c.change_block.ensures.nowhere (ap (λ v. can_change_in v c.args.dev c.args.lba c.args.change.now) c.deref.ensures.0 ∙ can)
