use Rattle.std.proofs.Common.{◌∙◌, arith}
use Rattle.std.proofs.lemmas.List.{length-take}
use Rattle.image_blocks.specs.Images.{units_open}
use Rattle.image_text.proofs.Importing.{ended_long}
use Rattle.image_text.proofs.import.import_blocks.Goals as goal

pub returns-in-Ok-take-clause-imported : goal.returns-in-Ok-take-clause-imported
returns-in-Ok-take-clause-imported g c =
    let one = length-take 1 c.take_all.new.pieces in
    let room = c.take_all.ensures.room in
    let half = c.split_at_mut-pieces.ensures.front_len in
    let least = c.requires.least in
    ended_long c.args.layout (units_open c.args.image.now) c.args.place c.in-Ok.count c.in-Ok-take.field-0 c.take.new.buf (g.S.Store.state c.args.store.now).bytes (g.S.Store.state c.take_all.new.store).bytes (g.R.Source.left c.args.source.now) (g.R.Source.left c.take_all.new.source) (g.R.Source.left c.take.new.self)
    c.in-Ok.ensures.taken (omega (arith, c.in-Ok-take.field-0-test)) (omega (arith, c.in-Ok-take.ensures.bound, one)) (c.take.auto.buf ∙ one ∙ (omega (arith, room, half, least))) c.in-Ok-take.ensures.taken
