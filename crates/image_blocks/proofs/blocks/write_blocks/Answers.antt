use Rattle.std.proofs.Common.{arith, length}
use Rattle.image_rig.proofs.Told.{ok_map}
use Rattle.image_blocks.proofs.Stretches.{are_left, are_put, stretch_held}
use Rattle.image_blocks.specs.Images.{units_open}
use Rattle.image_blocks.proofs.blocks.write_blocks.Goals as goal

pub write_at-requires : goal.write_at-requires
write_at-requires g c =
    let held = stretch_held (units_open c.args.image.now) c.args.at c.requires.place in
    omega (arith, held, c.place_in.ensures, c.requires.room, c.requires.held)

pub returns-clause-put : goal.returns-clause-put
returns-clause-put g c = ok_map c.write_at.result _ _
    (are_put (units_open c.args.image.now) c.args.at c.place_in.result (g.S.Store.state c.args.store.now).length c.args.from.now (g.S.Store.state c.args.store.now).bytes (g.S.Store.state c.write_at.new.self).bytes
    c.requires.place c.place_in.ensures c.requires.room c.requires.held (g.met.S.Store.told c.args.store.now))
    c.write_at.ensures.written

pub returns-clause-left : goal.returns-clause-left
returns-clause-left g c =
    are_left (units_open c.args.image.now) c.args.at c.place_in.result (g.S.Store.state c.args.store.now).length (length c.args.from.now) (g.S.Store.state c.args.store.now).bytes (g.S.Store.state c.write_at.new.self).bytes
    c.requires.place c.place_in.ensures c.requires.room c.requires.held (g.met.S.Store.told c.args.store.now) c.write_at.ensures.apart
