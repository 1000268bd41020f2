use Rattle.std.proofs.Common.{◌∙◌, length, refl, subst, arith}
use Rattle.image_blocks.specs.Images.{units_open}
use Rattle.image_text.specs.Compared.{HasCompared, counts, lines_of, places}
use Rattle.image_text.proofs.Comparing.{at_first, at_last, breaks_off, few_counted, goes_on, passed_on, pieces_compare, room_for}
use Rattle.dix_base.proofs.Stores.{not_read, read_on}
use Rattle.image_text.proofs.diff_walk.diff_lines.Goals as goal

pub diff_piece-requires-clause-places : goal.diff_piece-requires-clause-places
diff_piece-requires-clause-places g c =
    let inv = c.loop-left.invariant in
    pieces_compare (places (units_open c.args.sides.image.now) c.args.sides.place (units_open c.args.sides.other_image.now) c.args.sides.to) c.loop-left.left c.loop-left.other_left c.front_of-piece.result c.front_of-other_piece.result _ c.loop-left.differ _ _ _ _ _ _ _ _ c.requires.places
    inv.first.length inv.second.length inv.there inv.other_there inv.lines c.front_of-piece.ensures.value c.front_of-other_piece.ensures.value

pub returns-in-Err-clause-compared : goal.returns-in-Err-clause-compared
returns-in-Err-clause-compared g c =
    let us = units_open c.args.sides.image.now in
    let vs = units_open c.args.sides.other_image.now in
    let p = places us c.args.sides.place vs c.args.sides.to in
    let piece = c.front_of-piece.result in
    let other_piece = c.front_of-other_piece.result in
    let part = places us piece vs other_piece in
    let inv = c.loop-left.invariant in
    passed_on c.in-Err.fault (lines_of part) (lines_of p) part p (g.S.Store.state c.loop-left.store).bytes (g.T.Store.state c.loop-left.other).bytes (g.S.Store.state c.args.store.now).bytes (g.T.Store.state c.args.other.now).bytes
    (counts (g.S.Store.state c.loop-left.store).faults (g.S.Store.state c.diff_piece.new.store).faults (g.T.Store.state c.loop-left.other).faults (g.T.Store.state c.diff_piece.new.other).faults (g.O.Sink.faults c.loop-left.out) (g.O.Sink.faults c.diff_piece.new.out))
    (counts (g.S.Store.state c.args.store.now).faults (g.S.Store.state c.diff_piece.new.store).faults (g.T.Store.state c.args.other.now).faults (g.T.Store.state c.diff_piece.new.other).faults (g.O.Sink.faults c.args.out.now) (g.O.Sink.faults c.diff_piece.new.out))
    (g.O.Sink.taken c.loop-left.out) (g.O.Sink.taken c.args.out.now) (g.O.Sink.taken c.diff_piece.new.out) inv.first.same inv.second.same inv.first.count inv.second.count (omega (arith, inv.sinks)) refl refl refl
    (λ h. breaks_off p c.loop-left.left c.loop-left.other_left piece other_piece _ c.loop-left.differ (g.S.Store.state c.args.store.now).length (g.T.Store.state c.args.other.now).length (g.S.Store.state c.args.store.now).bytes (g.T.Store.state c.args.other.now).bytes
    (g.O.Sink.taken c.args.out.now) (g.O.Sink.taken c.loop-left.out) (g.O.Sink.taken c.diff_piece.new.out) c.requires.places.many inv.there inv.other_there
    (record { held = c.requires.places.held; told = g.met.S.Store.told c.args.store.now; other_held = c.requires.places.other_held; other_told = g.met.T.Store.told c.args.other.now }) inv.lines c.front_of-piece.ensures.value c.front_of-other_piece.ensures.value h)
    c.in-Err.ensures.compared

pub loop-left-init : goal.loop-left-init
loop-left-init g c = record {
  there = c.requires.places.place;
  other_there = c.requires.places.other_place;
  lines = at_first (places (units_open c.args.sides.image.now) c.args.sides.place (units_open c.args.sides.other_image.now) c.args.sides.to) (g.S.Store.state c.args.store.now).bytes (g.T.Store.state c.args.other.now).bytes (g.O.Sink.taken c.args.out.now);
  first = not_read _;
  second = not_read _;
  sinks = refl;
}

pub overflow_add-differ : goal.overflow_add-differ
overflow_add-differ g c =
    let p = places (units_open c.args.sides.image.now) c.args.sides.place (units_open c.args.sides.other_image.now) c.args.sides.to in
    let few = few_counted p c.loop-left.left c.loop-left.other_left c.front_of-piece.result c.front_of-other_piece.result _ c.loop-left.differ c.in-Ok.more _ _ _ _ _ _ _ c.loop-left.invariant.lines c.front_of-piece.ensures.value c.in-Ok.ensures.compared in
    omega (arith, few)

pub loop-left-preserved : goal.loop-left-preserved
loop-left-preserved g c =
    let us = units_open c.args.sides.image.now in
    let vs = units_open c.args.sides.other_image.now in
    let p = places us c.args.sides.place vs c.args.sides.to in
    let piece = c.front_of-piece.result in
    let other_piece = c.front_of-other_piece.result in
    let part = places us piece vs other_piece in
    let inv = c.loop-left.invariant in
    record {
      there = c.behind_of-left.ensures.there;
      other_there = c.behind_of-other_left.ensures.there;
      lines = goes_on p c.loop-left.left c.loop-left.other_left piece other_piece c.behind_of-left.result c.behind_of-other_left.result _ c.loop-left.differ c.in-Ok.more (g.S.Store.state c.args.store.now).bytes (g.T.Store.state c.args.other.now).bytes
          (g.O.Sink.taken c.args.out.now) (g.O.Sink.taken c.loop-left.out) (g.O.Sink.taken c.diff_piece.new.out) c.requires.places.many inv.there inv.other_there inv.lines
          (record { cut = c.front_of-piece.ensures.value; other_cut = c.front_of-other_piece.ensures.value; rest = c.behind_of-left.ensures.value; other_rest = c.behind_of-other_left.ensures.value })
          (subst (λ i. HasCompared (lines_of part) part i (g.T.Store.state c.args.other.now).bytes c.in-Ok.more (g.O.Sink.taken c.loop-left.out) (g.O.Sink.taken c.diff_piece.new.out)) inv.first.same
          (subst (λ i. HasCompared (lines_of part) part (g.S.Store.state c.loop-left.store).bytes i c.in-Ok.more (g.O.Sink.taken c.loop-left.out) (g.O.Sink.taken c.diff_piece.new.out)) inv.second.same c.in-Ok.ensures.compared));
      first = read_on _ _ _ inv.first c.diff_piece.ensures.first;
      second = read_on _ _ _ inv.second c.diff_piece.ensures.second;
      sinks = c.in-Ok.ensures.calm (λ e. absurd (cc)) ∙ inv.sinks;
    }

pub diff_piece-requires-clause-room : goal.diff_piece-requires-clause-room
diff_piece-requires-clause-room g c =
    let inv = c.loop-left.invariant in
    room_for (units_open c.args.sides.image.now) c.args.sides.place c.loop-left.left c.front_of-piece.result c.min-most.result c.block_bytes-len.result (length c.args.room.now) c.loop-left.room (g.S.Store.state c.args.store.now).bytes inv.lines.ones c.front_of-piece.ensures.value
    (omega (arith, c.blocks_in-fit.ensures, c.blocks_in-other_fit.ensures, c.min-most.ensures)) c.loop-left.auto.room c.block_bytes-len.ensures.value inv.lines.front

pub diff_piece-requires-clause-other_room : goal.diff_piece-requires-clause-other_room
diff_piece-requires-clause-other_room g c =
    let inv = c.loop-left.invariant in
    room_for (units_open c.args.sides.other_image.now) c.args.sides.to c.loop-left.other_left c.front_of-other_piece.result c.min-most.result c.block_bytes-other_len.result (length c.args.other_room.now) c.loop-left.other_room (g.T.Store.state c.args.other.now).bytes inv.lines.twos
    c.front_of-other_piece.ensures.value (omega (arith, c.blocks_in-fit.ensures, c.blocks_in-other_fit.ensures, c.min-most.ensures)) c.loop-left.auto.other_room c.block_bytes-other_len.ensures.value inv.lines.other_front

pub returns-clause-compared : goal.returns-clause-compared
returns-clause-compared g c =
    at_last (places (units_open c.args.sides.image.now) c.args.sides.place (units_open c.args.sides.other_image.now) c.args.sides.to) c.loop-left.left c.loop-left.other_left (g.S.Store.state c.args.store.now).bytes (g.T.Store.state c.args.other.now).bytes c.loop-left.differ (g.O.Sink.taken c.args.out.now)
    (g.O.Sink.taken c.loop-left.out) c.requires.places.many c.loop-left.invariant.lines (omega (arith, c.loop-left-test.false))
