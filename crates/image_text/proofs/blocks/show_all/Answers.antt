use Rattle.std.proofs.Common.{◌∙◌, refl, arith}
use Rattle.image_blocks.specs.Images.{units_open}
use Rattle.image_text.specs.Shown.{lines_of, text_of}
use Rattle.image_text.proofs.ShowShowing.{first_some, last_some, last_whole, lines_some, passed_on}
use Rattle.dix_base.proofs.Counts.{rose_later}
use Rattle.image_text.proofs.blocks.show_all.Goals as goal

pub returns-in-Err-clause-shown : goal.returns-in-Err-clause-shown
returns-in-Err-clause-shown g c =
    let us = units_open c.args.image.now in
    (c.in-Err.ensures.cause, first_some c.args.only_bad us c.args.place (g.S.Store.state c.args.store.now).length _ _ _ c.requires.place c.requires.held (g.met.S.Store.told c.args.store.now) c.in-Err.ensures.part)

pub returns-in-Err-show_lines-clause-shown : goal.returns-in-Err-show_lines-clause-shown
returns-in-Err-show_lines-clause-shown g c =
    let us = units_open c.args.image.now in
    passed_on c.in-Err-show_lines.fault (lines_of c.args.only_bad us c.args.place) (text_of c.args.only_bad us c.args.place) us c.args.place c.args.place (g.S.Store.state c.args.store.now).bytes (g.S.Store.state c.args.store.now).bytes
    (g.S.Store.state c.args.store.now).faults (g.S.Store.state c.args.store.now).faults (g.S.Store.state c.show_lines.new.store).faults (g.O.Sink.faults c.args.out.now) (g.O.Sink.faults c.write_first.new.out) (g.O.Sink.faults c.show_lines.new.out)
    (g.O.Sink.taken c.write_first.new.out) (g.O.Sink.taken c.args.out.now) (g.O.Sink.taken c.show_lines.new.out) refl (omega arith) c.write_first.ensures.count
    (λ h. lines_some c.args.only_bad us c.args.place (g.S.Store.state c.args.store.now).bytes (g.O.Sink.taken c.args.out.now) (g.O.Sink.taken c.write_first.new.out) (g.O.Sink.taken c.show_lines.new.out) c.in-Ok.ensures.whole h)
    c.in-Err-show_lines.ensures.shown

pub returns-in-Err-write_last-clause-shown : goal.returns-in-Err-write_last-clause-shown
returns-in-Err-write_last-clause-shown g c =
    let us = units_open c.args.image.now in (
      rose_later _ _ _ (omega (arith, c.write_first.ensures.count, c.show_lines.ensures.sinks)) c.in-Err-write_last.ensures.cause,
      last_some c.args.only_bad us c.args.place c.in-Ok-show_lines.tally (g.S.Store.state c.args.store.now).bytes (g.O.Sink.taken c.args.out.now) (g.O.Sink.taken c.write_first.new.out) (g.O.Sink.taken c.show_lines.new.out) (g.O.Sink.taken c.write_last.new.out)
          c.in-Ok.ensures.whole c.in-Ok-show_lines.ensures.shown c.in-Err-write_last.ensures.part,
    )

pub returns-in-Ok-write_last-clause-shown : goal.returns-in-Ok-write_last-clause-shown
returns-in-Ok-write_last-clause-shown g c =
    last_whole c.args.only_bad (units_open c.args.image.now) c.args.place c.in-Ok-show_lines.tally (g.S.Store.state c.args.store.now).bytes (g.O.Sink.taken c.args.out.now) (g.O.Sink.taken c.write_first.new.out) (g.O.Sink.taken c.show_lines.new.out) (g.O.Sink.taken c.write_last.new.out)
    c.in-Ok.ensures.whole c.in-Ok-show_lines.ensures.shown c.in-Ok-write_last.ensures.whole

pub returns-in-Err-show_lines-clause-calm : goal.returns-in-Err-show_lines-clause-calm
returns-in-Err-show_lines-clause-calm g c = λ h. c.in-Err-show_lines.ensures.calm h ∙ c.in-Ok.ensures.calm

pub returns-in-Ok-write_last-clause-calm : goal.returns-in-Ok-write_last-clause-calm
returns-in-Ok-write_last-clause-calm g c = λ h. c.in-Ok-write_last.ensures.calm ∙ (c.in-Ok-show_lines.ensures.calm (λ e. absurd (cc)) ∙ c.in-Ok.ensures.calm)
