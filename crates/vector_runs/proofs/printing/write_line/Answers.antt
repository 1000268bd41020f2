use Rattle.vector_runs.proofs.Lines.{told_line}
use Rattle.report_text.proofs.Lines.{keyed as key_of}
use Rattle.report_text.proofs.Written.{as_text}
use Rattle.vector_runs.proofs.printing.write_line.Goals as goal

pub write_vector-requires : goal.write_vector-requires
write_vector-requires g c = key_of (g.R.Rig.state c.args.rig.now).log c.args.i c.logged-what.result.now (g.met.R.Rig.keyed c.args.rig.now) c.logged-what.ensures

pub returns : goal.returns
returns g c =
    as_text (told_line (g.R.Rig.state c.args.rig.now).log c.args.i c.args.line.now c.logged-what.result.now c.as_slice.result.now c.moved.result.now c.as_slice-2.result.now c.in_of-came.result.now
    c.logged-what.ensures c.as_slice.ensures c.moved.ensures c.as_slice-2.ensures c.in_of-came.ensures) c.write_vector.ensures
