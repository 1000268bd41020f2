use Rattle.std.proofs.Common.{◌∙◌, length, refl, sym, subst, arith}
use Rattle.image_text.specs.declared.show.Tally.{Tally}
use Rattle.target_model.proofs.Bytes.{refilled}
use Rattle.image_blocks.specs.Images.{units_open}
use Rattle.image_text.specs.Shown.{HasShown, lines_of}
use Rattle.image_text.proofs.ShowShowing.{SoFar, at_first, at_last, breaks_off, few_counted, few_left_out, goes_on, passed_on}
use Rattle.dix_base.proofs.Stores.{not_read, read_on}
use Rattle.image_blocks.proofs.Walks.{in_room}
use Rattle.image_text.proofs.blocks.show_lines.Goals as goal

pub returns-in-Err-clause-shown : goal.returns-in-Err-clause-shown
returns-in-Err-clause-shown g c =
    let us = units_open c.args.image.now in
    let piece = c.front_of-piece.result in
    let inv = c.loop-left.invariant in
    passed_on c.in-Err.fault (lines_of c.args.only_bad us piece) (lines_of c.args.only_bad us c.args.place) us piece c.args.place (g.S.Store.state c.loop-left.store).bytes (g.S.Store.state c.args.store.now).bytes
    (g.S.Store.state c.args.store.now).faults (g.S.Store.state c.loop-left.store).faults (g.S.Store.state c.show_piece.new.store).faults (g.O.Sink.faults c.args.out.now) (g.O.Sink.faults c.loop-left.out) (g.O.Sink.faults c.show_piece.new.out)
    (g.O.Sink.taken c.loop-left.out) (g.O.Sink.taken c.args.out.now) (g.O.Sink.taken c.show_piece.new.out) inv.store.same inv.store.count (omega (arith, inv.sinks))
    (λ h. breaks_off c.args.only_bad us c.args.place c.loop-left.left piece _ c.loop-left.tally (g.S.Store.state c.args.store.now).length (g.S.Store.state c.args.store.now).bytes (g.O.Sink.taken c.args.out.now) (g.O.Sink.taken c.loop-left.out) (g.O.Sink.taken c.show_piece.new.out)
    inv.there c.requires.held (g.met.S.Store.told c.args.store.now) inv.lines c.front_of-piece.ensures.value h)
    c.in-Err.ensures.shown

pub loop-left-init : goal.loop-left-init
loop-left-init g c = record {
  there = c.requires.place;
  lines = at_first c.args.only_bad (units_open c.args.image.now) c.args.place (g.S.Store.state c.args.store.now).bytes (g.O.Sink.taken c.args.out.now);
  room = refl;
  store = not_read _;
  sinks = refl;
}

pub both-tally-requires-clause-bad : goal.both-tally-requires-clause-bad
both-tally-requires-clause-bad g c =
    let us = units_open c.args.image.now in
    let few = few_counted c.args.only_bad us c.args.place c.loop-left.left c.front_of-piece.result _ c.loop-left.tally c.in-Ok.more _ _ _ _ _ c.loop-left.invariant.lines c.front_of-piece.ensures.value c.in-Ok.ensures.shown in
    omega arith

pub both-tally-requires-clause-unchecked : goal.both-tally-requires-clause-unchecked
both-tally-requires-clause-unchecked g c =
    let us = units_open c.args.image.now in
    let few = few_left_out c.args.only_bad us c.args.place c.loop-left.left c.front_of-piece.result _ c.loop-left.tally c.in-Ok.more _ _ _ _ _ c.loop-left.invariant.lines c.front_of-piece.ensures.value c.in-Ok.ensures.shown in
    omega arith

pub loop-left-preserved : goal.loop-left-preserved
loop-left-preserved g c =
    let us = units_open c.args.image.now in
    let piece = c.front_of-piece.result in
    let inv = c.loop-left.invariant in
    record {
      there = c.behind_of-left.ensures.there;
      lines = subst (λ (t : Tally). SoFar c.args.only_bad us c.args.place c.behind_of-left.result (g.S.Store.state c.args.store.now).bytes t (g.O.Sink.taken c.args.out.now) (g.O.Sink.taken c.show_piece.new.out)) (sym c.both-tally.ensures)
          (goes_on c.args.only_bad us c.args.place c.loop-left.left piece c.behind_of-left.result _ c.loop-left.tally c.in-Ok.more (g.S.Store.state c.args.store.now).bytes (g.O.Sink.taken c.args.out.now) (g.O.Sink.taken c.loop-left.out) (g.O.Sink.taken c.show_piece.new.out)
          inv.there inv.lines c.front_of-piece.ensures.value c.behind_of-left.ensures.value
          (subst (λ i. HasShown (lines_of c.args.only_bad us piece) us piece i c.in-Ok.more (g.O.Sink.taken c.loop-left.out) (g.O.Sink.taken c.show_piece.new.out)) inv.store.same c.in-Ok.ensures.shown));
      room = refilled _ _ _ c.show_piece.auto.into (omega (arith, in_room piece c.loop-left.left c.blocks_in-most.result (length c.args.room.now) c.block_bytes-len.result c.front_of-piece.ensures.value c.blocks_in-most.ensures, inv.room)) ∙ inv.room;
      store = read_on _ _ _ inv.store c.show_piece.ensures.store;
      sinks = c.in-Ok.ensures.calm (λ e. absurd (cc)) ∙ inv.sinks;
    }

pub returns-clause-shown : goal.returns-clause-shown
returns-clause-shown g c =
    at_last c.args.only_bad (units_open c.args.image.now) c.args.place c.loop-left.left (g.S.Store.state c.args.store.now).bytes c.loop-left.tally (g.O.Sink.taken c.args.out.now) (g.O.Sink.taken c.loop-left.out) c.loop-left.invariant.lines (omega (arith, c.loop-left-test.false))
