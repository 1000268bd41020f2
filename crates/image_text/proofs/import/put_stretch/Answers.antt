use Rattle.std.proofs.Common.{◌∙◌, length, subst}
use Rattle.image_blocks.specs.Blocks.{AreLeft, ArePut, blocks_of}
use Rattle.image_blocks.specs.Images.{units_open}
use Rattle.image_text.proofs.Keeping.{keeps_all, keeps_written}
use Rattle.image_text.proofs.Storing.{left_some, none_some, pieces_put}
use Rattle.image_text.proofs.import.put_stretch.Goals as goal

pub returns-in-Err-clause-left : goal.returns-in-Err-clause-left
returns-in-Err-clause-left g c = none_some (units_open c.args.image.now) c.args.at (g.S.Store.state c.args.store.now).bytes (g.S.Store.state c.read_own.new.store).bytes c.read_own.ensures.store.same

pub returns-in-Ok-write_blocks-clause-put : goal.returns-in-Ok-write_blocks-clause-put
returns-in-Ok-write_blocks-clause-put g c =
    let us = units_open c.args.image.now in
    pieces_put c.args.layout us c.units.result.now c.args.at c.read_own.new.frames c.put_pieces.new.blocks c.args.pieces.now (g.S.Store.state c.args.store.now).bytes (g.S.Store.state c.write_blocks.new.store).bytes c.units.ensures c.requires.place.there c.requires.place.fits
    (c.read_own.ensures.long ∙ c.requires.room) c.requires.pieces c.put_pieces.ensures c.in-Ok.ensures.own
    (subst (λ v. ArePut us c.args.at (blocks_of us c.args.at c.put_pieces.new.blocks) v (g.S.Store.state c.write_blocks.new.store).bytes) c.read_own.ensures.store.same c.in-Ok-write_blocks.ensures.put)

pub returns-in-Err-write_blocks-clause-left : goal.returns-in-Err-write_blocks-clause-left
returns-in-Err-write_blocks-clause-left g c =
    let us = units_open c.args.image.now in
    left_some us c.args.at (g.S.Store.state c.args.store.now).bytes (g.S.Store.state c.write_blocks.new.store).bytes
    (subst (λ v. AreLeft us c.args.at v (g.S.Store.state c.write_blocks.new.store).bytes) c.read_own.ensures.store.same c.write_blocks.ensures.left)

pub returns-in-Err-clause-apart : goal.returns-in-Err-clause-apart
returns-in-Err-clause-apart g c = keeps_all (units_open c.args.image.now) c.args.at (g.S.Store.state c.args.store.now).bytes (g.S.Store.state c.read_own.new.store).bytes c.read_own.ensures.store.same

pub returns-in-Ok-write_blocks-clause-apart : goal.returns-in-Ok-write_blocks-clause-apart
returns-in-Ok-write_blocks-clause-apart g c =
    keeps_written (units_open c.args.image.now) c.args.at (length c.put_pieces.new.blocks) (g.S.Store.state c.args.store.now).bytes (g.S.Store.state c.read_own.new.store).bytes (g.S.Store.state c.write_blocks.new.store).bytes
    (c.put_pieces.auto.blocks ∙ c.read_own.ensures.long ∙ c.requires.room) c.read_own.ensures.store.same c.write_blocks.ensures.apart

pub returns-in-Err-write_blocks-clause-apart : goal.returns-in-Err-write_blocks-clause-apart
returns-in-Err-write_blocks-clause-apart g c =
    keeps_written (units_open c.args.image.now) c.args.at (length c.put_pieces.new.blocks) (g.S.Store.state c.args.store.now).bytes (g.S.Store.state c.read_own.new.store).bytes (g.S.Store.state c.write_blocks.new.store).bytes
    (c.put_pieces.auto.blocks ∙ c.read_own.ensures.long ∙ c.requires.room) c.read_own.ensures.store.same c.write_blocks.ensures.apart
