use Rattle.std.proofs.Common.{refl}
use Rattle.image_blocks.specs.Images.{units_open}
use Rattle.image_text.proofs.Dumping.{none_dumped, piece_dumped, piece_some}
use Rattle.image_text.proofs.export.export_piece.Goals as goal

pub returns-in-Err-clause-dumped : goal.returns-in-Err-clause-dumped
returns-in-Err-clause-dumped g c =
    (c.in-Err.ensures.counted.cause, none_dumped c.args.layout (units_open c.args.image.now) c.args.at (g.S.Store.state c.args.store.now).length (g.S.Store.state c.args.store.now).bytes _ _ c.requires.place c.requires.held (g.met.S.Store.told c.args.store.now) refl)

pub returns-in-Ok-write_dump-clause-dumped : goal.returns-in-Ok-write_dump-clause-dumped
returns-in-Ok-write_dump-clause-dumped g c =
    piece_dumped c.args.layout (units_open c.args.image.now) c.units.result.now c.args.at c.read_blocks.new.into (g.S.Store.state c.args.store.now).bytes (g.O.Sink.taken c.args.out.now) (g.O.Sink.taken c.write_dump.new.out)
    c.units.ensures c.in-Ok.ensures.read c.in-Ok-write_dump.ensures.whole

pub returns-in-Err-write_dump-clause-dumped : goal.returns-in-Err-write_dump-clause-dumped
returns-in-Err-write_dump-clause-dumped g c = (
  c.in-Err-write_dump.ensures.cause,
  piece_some c.args.layout (units_open c.args.image.now) c.units.result.now c.args.at c.read_blocks.new.into (g.S.Store.state c.args.store.now).bytes (g.O.Sink.taken c.args.out.now) (g.O.Sink.taken c.write_dump.new.out)
      c.units.ensures c.in-Ok.ensures.read c.in-Err-write_dump.ensures.part,
)
