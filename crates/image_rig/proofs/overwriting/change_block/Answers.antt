use Rattle.std.proofs.Common.{◌∙◌, sym, arith}
use Rattle.image_rig.proofs.Units.{block_held}
use Rattle.image_rig.proofs.Changing.{block_small, fits_room, source_held, target_address}
use Rattle.image_rig.proofs.overwriting.change_block.Goals as goal

pub slice_bounds-room-end : goal.slice_bounds-room-end
slice_bounds-room-end g c = block_small c.args.units.now c.args.dev c.stored_size-len.result c.requires.layout c.requires.device c.stored_size-len.ensures.bound

pub overwrite_block-requires-clause-source : goal.overwrite_block-requires-clause-source
overwrite_block-requires-clause-source g c =
    let us = c.args.units.now in
    let n = c.stored_size-len.result in
    let small = block_small us c.args.dev n c.requires.layout c.requires.device c.stored_size-len.ensures.bound in
    let held = source_held us c.args.dev c.args.lba c.args.change.now c.requires.device c.requires.source (sym c.can_change.ensures ∙ c.if-not-can_change.false) in
    fits_room c.source_place-from.result n (g.S.Store.state c.args.store.now).length small (omega (arith, held, c.source_place-from.ensures, c.stored_size-len.ensures.value, c.requires.held))

pub overwrite_block-requires-clause-target : goal.overwrite_block-requires-clause-target
overwrite_block-requires-clause-target g c =
    let us = c.args.units.now in
    let n = c.stored_size-len.result in
    let small = block_small us c.args.dev n c.requires.layout c.requires.device c.stored_size-len.ensures.bound in
    let held = block_held us c.args.dev c.args.lba (target_address us c.args.dev c.args.lba c.args.change.now c.requires.device (sym c.can_change.ensures ∙ c.if-not-can_change.false)) in
    fits_room c.block_place-to.result n (g.S.Store.state c.args.store.now).length small (omega (arith, held, c.block_place-to.ensures.value, c.stored_size-len.ensures.value, c.requires.held))
