use Rattle.std.proofs.Common.{◌∙◌, length, refl, subst, arith}
use Rattle.target_model.proofs.Bytes.{refilled}
use Rattle.image_blocks.specs.Images.{units_open}
use Rattle.image_text.specs.Ends.{HasDumped}
use Rattle.image_text.proofs.Dumping.{at_first, at_last, breaks_off, goes_on, passed_on}
use Rattle.dix_base.proofs.Stores.{not_read, read_on}
use Rattle.image_blocks.proofs.Walks.{in_room}
use Rattle.image_text.proofs.export.export_all.Goals as goal

pub returns-in-Err-clause-dumped : goal.returns-in-Err-clause-dumped
returns-in-Err-clause-dumped g c =
    let us = units_open c.args.image.now in
    let piece = c.front_of-piece.result in
    let inv = c.loop-left.invariant in
    passed_on (Unit {0}) (Unit {0}) c.in-Err.fault c.args.layout us piece c.args.place (g.S.Store.state c.loop-left.store).bytes (g.S.Store.state c.args.store.now).bytes
    (g.S.Store.state c.args.store.now).faults (g.S.Store.state c.loop-left.store).faults (g.S.Store.state c.export_piece.new.store).faults (g.O.Sink.faults c.args.out.now) (g.O.Sink.faults c.loop-left.out) (g.O.Sink.faults c.export_piece.new.out)
    (g.O.Sink.taken c.loop-left.out) (g.O.Sink.taken c.args.out.now) (g.O.Sink.taken c.export_piece.new.out) inv.store.same inv.store.count (omega (arith, inv.sinks))
    (λ h. breaks_off c.args.layout us c.args.place c.loop-left.left piece _ (g.S.Store.state c.args.store.now).length (g.S.Store.state c.args.store.now).bytes (g.O.Sink.taken c.args.out.now) (g.O.Sink.taken c.loop-left.out) (g.O.Sink.taken c.export_piece.new.out)
    inv.there c.requires.held (g.met.S.Store.told c.args.store.now) inv.pieces c.front_of-piece.ensures.value h)
    c.in-Err.ensures.dumped

pub loop-left-init : goal.loop-left-init
loop-left-init g c = record {
  there = c.requires.place;
  pieces = at_first c.args.layout (units_open c.args.image.now) c.args.place (g.S.Store.state c.args.store.now).bytes (g.O.Sink.taken c.args.out.now);
  room = refl;
  store = not_read _;
  sinks = refl;
}

pub loop-left-preserved : goal.loop-left-preserved
loop-left-preserved g c =
    let us = units_open c.args.image.now in
    let piece = c.front_of-piece.result in
    let inv = c.loop-left.invariant in
    record {
      there = c.behind_of-left.ensures.there;
      pieces = goes_on c.args.layout us c.args.place c.loop-left.left piece c.behind_of-left.result _ (g.S.Store.state c.args.store.now).bytes (g.O.Sink.taken c.args.out.now) (g.O.Sink.taken c.loop-left.out) (g.O.Sink.taken c.export_piece.new.out)
          inv.there inv.pieces c.front_of-piece.ensures.value c.behind_of-left.ensures.value
          (subst (λ i. HasDumped c.args.layout us piece i (g.O.Sink.taken c.loop-left.out) (g.O.Sink.taken c.export_piece.new.out)) inv.store.same c.in-Ok.ensures.dumped);
      room = refilled _ _ _ c.export_piece.auto.into (omega (arith, in_room piece c.loop-left.left c.blocks_in-most.result (length c.args.room.now) c.block_bytes-len.result c.front_of-piece.ensures.value c.blocks_in-most.ensures, inv.room)) ∙ inv.room;
      store = read_on _ _ _ inv.store c.export_piece.ensures.store;
      sinks = c.in-Ok.ensures.calm (λ e. absurd (cc)) ∙ inv.sinks;
    }

pub returns-clause-dumped : goal.returns-clause-dumped
returns-clause-dumped g c =
    at_last c.args.layout (units_open c.args.image.now) c.args.place c.loop-left.left (g.S.Store.state c.args.store.now).bytes (g.O.Sink.taken c.args.out.now) (g.O.Sink.taken c.loop-left.out) c.loop-left.invariant.pieces (omega (arith, c.loop-left-test.false))
