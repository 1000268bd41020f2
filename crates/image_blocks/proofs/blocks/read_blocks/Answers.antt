use Rattle.std.proofs.Common.{◌∙◌, arith}
use Rattle.image_blocks.proofs.Stretches.{stretch_held, were_read}
use Rattle.image_blocks.specs.Images.{units_open}
use Rattle.image_blocks.proofs.blocks.read_blocks.Goals as goal

pub read_at-requires : goal.read_at-requires
read_at-requires g c =
    let held = stretch_held (units_open c.args.image.now) c.args.at c.requires.place in
    omega (arith, held, c.place_in.ensures, c.requires.room, c.requires.held)

pub returns-clause-read : goal.returns-clause-read
returns-clause-read g c =
    were_read c.read_at.result (units_open c.args.image.now) c.args.at c.place_in.result _ c.read_at.new.into (g.S.Store.state c.args.store.now).bytes c.requires.place c.place_in.ensures c.requires.room (c.read_at.auto.into ∙ c.requires.room) c.read_at.ensures.read
