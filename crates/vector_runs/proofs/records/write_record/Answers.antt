use Rattle.vector_runs.proofs.RecordLines.{told_record}
use Rattle.report_text.proofs.Lines.{keyed as key_of}
use Rattle.report_text.proofs.Written.{as_text}
use Rattle.vector_runs.proofs.records.write_record.Goals as goal

pub write_vector-requires : goal.write_vector-requires
write_vector-requires g c = key_of (g.R.Rig.state c.args.rig.now).log c.args.i c.logged-what.result.now (g.met.R.Rig.keyed c.args.rig.now) c.logged-what.ensures

pub returns : goal.returns
returns g c =
    as_text (told_record (g.R.Rig.state c.args.rig.now).log c.args.i c.logged-what.result.now c.as_slice-cdb.result.now c.moved-moved.result.now c.out_of-sent.result.now c.in_of-came.result.now
    c.logged-what.ensures c.as_slice-cdb.ensures c.moved-moved.ensures c.out_of-sent.ensures c.in_of-came.ensures) c.write_vector.ensures
