use Rattle.std.proofs.Common.{◌∙◌, length, refl, subst, sym, arith}
use Rattle.std.specs.Prelude.{Err}
use Rattle.target_model.proofs.Bytes.{refilled}
use Rattle.image_blocks.specs.Images.{units_open}
use Rattle.image_text.specs.Ends.{TakingEnds}
use Rattle.dix_base.proofs.Stores.{not_written, written_on}
use Rattle.image_blocks.proofs.Walks.{in_room}
use Rattle.image_text.proofs.Importing.{at_first, breaks_off, goes_on}
use Rattle.image_text.proofs.Keeping.{keeps_all, keeps_on, keeps_piece}
use Rattle.image_text.proofs.Storing.{cut_few, cut_is, piece_room, piece_taken, pieces_held}
use Rattle.image_text.proofs.import.take_all.Goals as goal

pub take_stretch-requires-clause-place : goal.take_stretch-requires-clause-place
take_stretch-requires-clause-place g c =
    let inv = c.loop-left.invariant in
    piece_taken c.args.layout (units_open c.args.image.now) c.args.place c.loop-left.left c.front_of-piece.result _ c.loop-left.done (g.S.Store.state c.args.store.now).length (g.S.Store.state c.loop-left.store).length c.requires.place inv.store.length inv.there inv.taken.behind c.front_of-piece.ensures.value

pub loop-left-init : goal.loop-left-init
loop-left-init g c = record {
  there = c.requires.place.there;
  apart = keeps_all (units_open c.args.image.now) c.args.place (g.S.Store.state c.args.store.now).bytes (g.S.Store.state c.args.store.now).bytes refl;
  taken = at_first c.args.layout (units_open c.args.image.now) c.args.place (g.S.Store.state c.args.store.now).bytes (g.R.Source.left c.args.source.now);
  pieces = refl;
  frames = refl;
  store = not_written _;
  calm = refl;
  sources = omega arith;
}

pub slice_bounds-take_stretch-end : goal.slice_bounds-take_stretch-end
slice_bounds-take_stretch-end g c =
    let room = in_room c.front_of-piece.result c.loop-left.left c.blocks_in-most.result c.min.result c.block_bytes-len.result c.front_of-piece.ensures.value c.blocks_in-most.ensures in
    pieces_held c.args.layout (units_open c.args.image.now) c.units.result.now c.args.place.dev c.piece_len-each.result c.block_bytes-len.result c.front_of-piece.result.count (length c.loop-left.pieces) c.units.ensures c.piece_len-each.ensures c.block_bytes-len.ensures.value c.block_bytes-len.ensures.least
    (omega (arith, room, c.min.ensures, c.loop-left.invariant.pieces))

pub slice_bounds-take_stretch-end-in-loop-left : goal.slice_bounds-take_stretch-end-in-loop-left
slice_bounds-take_stretch-end-in-loop-left g c =
    let room = in_room c.front_of-piece.result c.loop-left.left c.blocks_in-most.result c.min.result c.block_bytes-len.result c.front_of-piece.ensures.value c.blocks_in-most.ensures in
    let held = pieces_held c.args.layout (units_open c.args.image.now) c.units.result.now c.args.place.dev c.piece_len-each.result c.block_bytes-len.result c.front_of-piece.result.count (length c.loop-left.pieces) c.units.ensures c.piece_len-each.ensures c.block_bytes-len.ensures.value
    c.block_bytes-len.ensures.least (omega (arith, room, c.min.ensures, c.loop-left.invariant.pieces)) in
    cut_is _ c.loop-left.pieces held

pub take_stretch-requires-clause-pieces : goal.take_stretch-requires-clause-pieces
take_stretch-requires-clause-pieces g c =
    let room = in_room c.front_of-piece.result c.loop-left.left c.blocks_in-most.result c.min.result c.block_bytes-len.result c.front_of-piece.ensures.value c.blocks_in-most.ensures in
    let held = pieces_held c.args.layout (units_open c.args.image.now) c.units.result.now c.args.place.dev c.piece_len-each.result c.block_bytes-len.result c.front_of-piece.result.count (length c.loop-left.pieces) c.units.ensures c.piece_len-each.ensures c.block_bytes-len.ensures.value
    c.block_bytes-len.ensures.least (omega (arith, room, c.min.ensures, c.loop-left.invariant.pieces)) in
    piece_room c.args.layout (units_open c.args.image.now) c.units.result.now c.args.place c.loop-left.left c.front_of-piece.result c.blocks_in-most.result c.loop-left.done c.piece_len-each.result c.loop-left.pieces c.units.ensures c.piece_len-each.ensures c.loop-left.invariant.taken.behind c.front_of-piece.ensures.value
    held

pub returns-in-Err-clause-taken : goal.returns-in-Err-clause-taken
returns-in-Err-clause-taken g c =
    let us = units_open c.args.image.now in
    let inv = c.loop-left.invariant in
    subst (λ f. TakingEnds (Err f) c.args.layout us c.args.place (length c.args.frames.now) (g.S.Store.state c.args.store.now).faults (g.S.Store.state c.take_stretch.new.store).faults (g.R.Source.faults c.args.source.now) (g.R.Source.faults c.take_stretch.new.source)
    (g.S.Store.state c.args.store.now).bytes (g.S.Store.state c.take_stretch.new.store).bytes (g.R.Source.left c.args.source.now) (g.R.Source.left c.take_stretch.new.source)) (sym c.behind_pieces.ensures)
    (breaks_off c.in-Err.fault c.args.layout us c.args.place c.loop-left.left c.front_of-piece.result c.blocks_in-most.result c.loop-left.done _ (length c.args.frames.now) (g.S.Store.state c.args.store.now).faults (g.S.Store.state c.loop-left.store).faults (g.S.Store.state c.take_stretch.new.store).faults
    (g.R.Source.faults c.args.source.now) (g.R.Source.faults c.loop-left.source) (g.R.Source.faults c.take_stretch.new.source) (g.S.Store.state c.args.store.now).bytes (g.S.Store.state c.loop-left.store).bytes (g.S.Store.state c.take_stretch.new.store).bytes
    (g.R.Source.left c.args.source.now) (g.R.Source.left c.loop-left.source) (g.R.Source.left c.take_stretch.new.source) c.requires.place.there c.front_of-piece.ensures.value (cut_few _ (length c.args.frames.now) c.loop-left.frames inv.frames) inv.store.count inv.sources inv.taken c.in-Err.ensures.taken)

pub returns-in-Err-clause-apart : goal.returns-in-Err-clause-apart
returns-in-Err-clause-apart g c =
    let us = units_open c.args.image.now in
    let inv = c.loop-left.invariant in
    keeps_on us c.args.place (g.S.Store.state c.args.store.now).bytes (g.S.Store.state c.loop-left.store).bytes (g.S.Store.state c.take_stretch.new.store).bytes inv.apart
    (keeps_piece us c.args.place c.loop-left.left c.front_of-piece.result c.blocks_in-most.result c.loop-left.done (g.S.Store.state c.loop-left.store).bytes (g.S.Store.state c.take_stretch.new.store).bytes c.requires.place.there c.front_of-piece.ensures.value
    inv.taken.behind inv.taken.few c.take_stretch.ensures.apart)

pub loop-left-preserved : goal.loop-left-preserved
loop-left-preserved g c =
    let us = units_open c.args.image.now in
    let inv = c.loop-left.invariant in
    let room = in_room c.front_of-piece.result c.loop-left.left c.blocks_in-most.result c.min.result c.block_bytes-len.result c.front_of-piece.ensures.value c.blocks_in-most.ensures in
    let held = pieces_held c.args.layout (units_open c.args.image.now) c.units.result.now c.args.place.dev c.piece_len-each.result c.block_bytes-len.result c.front_of-piece.result.count (length c.loop-left.pieces) c.units.ensures c.piece_len-each.ensures c.block_bytes-len.ensures.value
    c.block_bytes-len.ensures.least (omega (arith, room, c.min.ensures, c.loop-left.invariant.pieces)) in
    record {
      there = c.behind_of-left.ensures.there;
      apart = keeps_on us c.args.place (g.S.Store.state c.args.store.now).bytes (g.S.Store.state c.loop-left.store).bytes (g.S.Store.state c.take_stretch.new.store).bytes inv.apart
          (keeps_piece us c.args.place c.loop-left.left c.front_of-piece.result c.blocks_in-most.result c.loop-left.done (g.S.Store.state c.loop-left.store).bytes (g.S.Store.state c.take_stretch.new.store).bytes c.requires.place.there c.front_of-piece.ensures.value
          inv.taken.behind inv.taken.few c.take_stretch.ensures.apart);
      taken = goes_on c.args.layout us c.args.place c.loop-left.left c.front_of-piece.result c.behind_of-left.result c.blocks_in-most.result c.loop-left.done c.in-Ok.more (g.S.Store.state c.args.store.now).bytes (g.S.Store.state c.loop-left.store).bytes (g.S.Store.state c.take_stretch.new.store).bytes
          (g.R.Source.left c.args.source.now) (g.R.Source.left c.loop-left.source) (g.R.Source.left c.take_stretch.new.source) c.requires.place.there c.front_of-piece.ensures.value c.behind_of-left.ensures.value c.in-Ok.ensures.taken.0 inv.taken c.in-Ok.ensures.taken.1;
      pieces = refilled _ _ _ c.take_stretch.auto.pieces held ∙ inv.pieces;
      frames = refilled _ _ _ c.take_stretch.auto.frames (omega (arith, room, c.min.ensures, inv.frames)) ∙ inv.frames;
      store = written_on _ _ _ inv.store c.take_stretch.ensures.store;
      calm = c.in-Ok.ensures.calm ∙ inv.calm;
      sources = omega (arith, c.take_stretch.ensures.sources, inv.sources);
    }
