-- Whole blocks are written as they lie.
use Rattle.std.proofs.Common.{sym}
use Rattle.rig_api.specs.Frames.{stored_size}
use Rattle.image_text.proofs.Dumping.{as_they_lie}
use Rattle.report_text.proofs.Written.{as_text}
use Rattle.image_text.proofs.export.write_dump.Goals as goal

pub returns-in-Interleaved : goal.returns-in-Interleaved
returns-in-Interleaved g c =
    let u = c.args.unit in
    as_text (sym (as_they_lie c.args.layout u.size (stored_size u.ty u.size) c.args.count c.args.frames.now c.in-Interleaved.is c.requires)) c.write_all.ensures
