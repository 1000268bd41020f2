use Rattle.std.proofs.Common.{◌∙◌, refl, arith}
use Rattle.image_blocks.specs.Images.{units_open}
use Rattle.image_text.specs.Compared.{counts, lines_of, places, diff_of}
use Rattle.image_text.proofs.Comparing.{first_some, last_some, last_whole, lines_some, passed_on}
use Rattle.dix_base.proofs.Counts.{rose_later}
use Rattle.image_text.proofs.diff_walk.diff_all.Goals as goal

pub returns-in-Err-clause-compared : goal.returns-in-Err-clause-compared
returns-in-Err-clause-compared g c =
    let p = places (units_open c.args.sides.image.now) c.args.sides.place (units_open c.args.sides.other_image.now) c.args.sides.to in (
      c.in-Err.ensures.cause,
      first_some p (g.S.Store.state c.args.store.now).length (g.T.Store.state c.args.other.now).length _ _ _ _ c.requires.places.place c.requires.places.other_place
          (record { held = c.requires.places.held; told = g.met.S.Store.told c.args.store.now; other_held = c.requires.places.other_held; other_told = g.met.T.Store.told c.args.other.now }) c.in-Err.ensures.part,
    )

pub returns-in-Err-diff_lines-clause-compared : goal.returns-in-Err-diff_lines-clause-compared
returns-in-Err-diff_lines-clause-compared g c =
    let p = places (units_open c.args.sides.image.now) c.args.sides.place (units_open c.args.sides.other_image.now) c.args.sides.to in
    passed_on c.in-Err-diff_lines.fault (lines_of p) (diff_of p) p p (g.S.Store.state c.args.store.now).bytes (g.T.Store.state c.args.other.now).bytes (g.S.Store.state c.args.store.now).bytes (g.T.Store.state c.args.other.now).bytes
    (counts (g.S.Store.state c.args.store.now).faults (g.S.Store.state c.diff_lines.new.store).faults (g.T.Store.state c.args.other.now).faults (g.T.Store.state c.diff_lines.new.other).faults (g.O.Sink.faults c.write_diff_first.new.out) (g.O.Sink.faults c.diff_lines.new.out))
    (counts (g.S.Store.state c.args.store.now).faults (g.S.Store.state c.diff_lines.new.store).faults (g.T.Store.state c.args.other.now).faults (g.T.Store.state c.diff_lines.new.other).faults (g.O.Sink.faults c.args.out.now) (g.O.Sink.faults c.diff_lines.new.out))
    (g.O.Sink.taken c.write_diff_first.new.out) (g.O.Sink.taken c.args.out.now) (g.O.Sink.taken c.diff_lines.new.out) refl refl (omega arith) (omega arith) c.write_diff_first.ensures.count refl refl refl
    (λ h. lines_some p (g.S.Store.state c.args.store.now).bytes (g.T.Store.state c.args.other.now).bytes (g.O.Sink.taken c.args.out.now) (g.O.Sink.taken c.write_diff_first.new.out) (g.O.Sink.taken c.diff_lines.new.out) c.in-Ok.ensures.whole h)
    c.in-Err-diff_lines.ensures.compared

pub returns-in-Err-write_compared-clause-compared : goal.returns-in-Err-write_compared-clause-compared
returns-in-Err-write_compared-clause-compared g c =
    let p = places (units_open c.args.sides.image.now) c.args.sides.place (units_open c.args.sides.other_image.now) c.args.sides.to in (
      rose_later _ _ _ (omega (arith, c.write_diff_first.ensures.count, c.diff_lines.ensures.sinks)) c.in-Err-write_compared.ensures.cause,
      last_some p c.in-Ok-diff_lines.differ (g.S.Store.state c.args.store.now).bytes (g.T.Store.state c.args.other.now).bytes (g.O.Sink.taken c.args.out.now) (g.O.Sink.taken c.write_diff_first.new.out) (g.O.Sink.taken c.diff_lines.new.out) (g.O.Sink.taken c.write_compared.new.out)
          c.in-Ok.ensures.whole c.in-Ok-diff_lines.ensures.compared c.in-Err-write_compared.ensures.part,
    )

pub returns-in-Ok-write_compared-clause-compared : goal.returns-in-Ok-write_compared-clause-compared
returns-in-Ok-write_compared-clause-compared g c =
    last_whole (places (units_open c.args.sides.image.now) c.args.sides.place (units_open c.args.sides.other_image.now) c.args.sides.to) c.in-Ok-diff_lines.differ (g.S.Store.state c.args.store.now).bytes (g.T.Store.state c.args.other.now).bytes
    (g.O.Sink.taken c.args.out.now) (g.O.Sink.taken c.write_diff_first.new.out) (g.O.Sink.taken c.diff_lines.new.out) (g.O.Sink.taken c.write_compared.new.out) c.in-Ok.ensures.whole c.in-Ok-diff_lines.ensures.compared c.in-Ok-write_compared.ensures.whole

pub returns-in-Err-diff_lines-clause-calm : goal.returns-in-Err-diff_lines-clause-calm
returns-in-Err-diff_lines-clause-calm g c = λ h. c.in-Err-diff_lines.ensures.calm h ∙ c.in-Ok.ensures.calm

pub returns-in-Ok-write_compared-clause-calm : goal.returns-in-Ok-write_compared-clause-calm
returns-in-Ok-write_compared-clause-calm g c = λ h. c.in-Ok-write_compared.ensures.calm ∙ (c.in-Ok-diff_lines.ensures.calm (λ e. absurd (cc)) ∙ c.in-Ok.ensures.calm)
