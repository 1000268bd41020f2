use Rattle.std.proofs.Common.{◌<◌, ◌+◌, length, drop, arith}
use Rattle.vector_runs.specs.RecordText.{records_text}
use Rattle.vector_runs.proofs.RecordLines.{next_text, no_text}
use Rattle.report_text.proofs.Written.{as_left, begins, breaks, ends, writes}
use Rattle.vector_runs.proofs.records.write_records.Goals as goal

pub loop-i-init : goal.loop-i-init
loop-i-init g c = begins

pub returns-in_err-write_record : goal.returns-in_err-write_record
returns-in_err-write_record g c =
    let log = (g.R.Rig.state c.args.rig.now).log in
    let here : c.loop-i.i < length log = omega (arith, c.loop-i-test.true, c.records-i-end.ensures) in
    breaks (records_text (drop (c.loop-i.i + 1) log)) c.from_residual.result c.from_residual.ensures.0 (as_left (next_text c.loop-i.i log here) c.loop-i.invariant) c.in_err-write_record.ensures

pub loop-i-preserved : goal.loop-i-preserved
loop-i-preserved g c =
    let log = (g.R.Rig.state c.args.rig.now).log in
    let here : c.loop-i.i < length log = omega (arith, c.loop-i-test.true, c.records-i-end.ensures) in
    writes (as_left (next_text c.loop-i.i log here) c.loop-i.invariant) c.in_ok-write_record.ensures

pub returns : goal.returns
returns g c = ends c.loop-i.invariant (no_text c.loop-i.i (g.R.Rig.state c.args.rig.now).log (omega (arith, c.records-i-end.ensures)))
