use Rattle.std.proofs.Common.{◌<◌, ◌+◌, length, drop, arith}
use Rattle.vector_runs.specs.ListText.{lines_text}
use Rattle.vector_runs.proofs.Lines.{next_line, no_lines}
use Rattle.report_text.proofs.Written.{as_left, begins, breaks, ends, writes}
use Rattle.vector_runs.proofs.printing.write_lines.Goals as goal

pub loop-line-init : goal.loop-line-init
loop-line-init g c = record { text = begins; place = omega arith }

pub returns-in_err-write_line : goal.returns-in_err-write_line
returns-in_err-write_line g c =
    let log = (g.R.Rig.state c.args.rig.now).log in
    let here : c.loop-line.i < length log = omega (arith, c.loop-line.invariant.place, c.loop-line-test.true, c.requires) in
    breaks (lines_text (drop (c.loop-line.line-index + 1) c.args.lines.now) (drop (c.loop-line.i + 1) log)) c.from_residual.result c.from_residual.ensures.0
    (as_left (next_line c.loop-line.line-index c.loop-line.i c.args.lines.now log c.line-item.result c.line-item.is c.loop-line-test.true here) c.loop-line.invariant.text) c.in_err-write_line.ensures

pub loop-line-preserved : goal.loop-line-preserved
loop-line-preserved g c =
    let log = (g.R.Rig.state c.args.rig.now).log in
    let here : c.loop-line.i < length log = omega (arith, c.loop-line.invariant.place, c.loop-line-test.true, c.requires) in
    record {
      text = writes (as_left (next_line c.loop-line.line-index c.loop-line.i c.args.lines.now log c.line-item.result c.line-item.is c.loop-line-test.true here) c.loop-line.invariant.text) c.in_ok-write_line.ensures;
      place = omega (arith, c.loop-line.invariant.place);
    }

pub returns : goal.returns
returns g c = ends c.loop-line.invariant.text (no_lines c.loop-line.line-index c.args.lines.now (drop c.loop-line.i (g.R.Rig.state c.args.rig.now).log) (omega arith))
