use Rattle.std.proofs.Common.{refl}
use Rattle.image_blocks.specs.Images.{units_open}
use Rattle.image_text.specs.Compared.{lines_of, places}
use Rattle.image_text.proofs.Comparing.{none_compared}
use Rattle.image_text.proofs.diff_walk.diff_piece.Goals as goal

pub returns-in-Err-clause-compared : goal.returns-in-Err-clause-compared
returns-in-Err-clause-compared g c =
    let p = places (units_open c.args.sides.image.now) c.args.sides.place (units_open c.args.sides.other_image.now) c.args.sides.to in (
      c.in-Err.ensures.counted.cause,
      none_compared (lines_of p) p (g.S.Store.state c.args.store.now).length (g.T.Store.state c.args.other.now).length (g.S.Store.state c.args.store.now).bytes (g.T.Store.state c.args.other.now).bytes _ _ c.requires.places.place c.requires.places.other_place
          (record { held = c.requires.places.held; told = g.met.S.Store.told c.args.store.now; other_held = c.requires.places.other_held; other_told = g.met.T.Store.told c.args.other.now }) refl,
    )

pub returns-in-Err-read_blocks-clause-compared : goal.returns-in-Err-read_blocks-clause-compared
returns-in-Err-read_blocks-clause-compared g c =
    let p = places (units_open c.args.sides.image.now) c.args.sides.place (units_open c.args.sides.other_image.now) c.args.sides.to in (
      c.in-Err-read_blocks.ensures.counted.cause,
      none_compared (lines_of p) p (g.S.Store.state c.args.store.now).length (g.T.Store.state c.args.other.now).length (g.S.Store.state c.args.store.now).bytes (g.T.Store.state c.args.other.now).bytes _ _ c.requires.places.place c.requires.places.other_place
          (record { held = c.requires.places.held; told = g.met.S.Store.told c.args.store.now; other_held = c.requires.places.other_held; other_told = g.met.T.Store.told c.args.other.now }) refl,
    )
