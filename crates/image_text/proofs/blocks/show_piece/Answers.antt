use Rattle.std.proofs.Common.{refl}
use Rattle.image_blocks.specs.Images.{units_open}
use Rattle.image_text.specs.Shown.{lines_of}
use Rattle.image_text.proofs.ShowShowing.{none_shown}
use Rattle.image_text.proofs.blocks.show_piece.Goals as goal

pub returns-in-Err-clause-shown : goal.returns-in-Err-clause-shown
returns-in-Err-clause-shown g c =
    let us = units_open c.args.image.now in
    (c.in-Err.ensures.counted.cause, none_shown (lines_of c.args.only_bad us c.args.at) us c.args.at (g.S.Store.state c.args.store.now).length (g.S.Store.state c.args.store.now).bytes _ _ c.requires.place c.requires.held (g.met.S.Store.told c.args.store.now) refl)
