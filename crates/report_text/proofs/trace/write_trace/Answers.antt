use Rattle.std.proofs.Common.{ap, ◌<◌, ◌+◌, length, drop, arith}
use Rattle.std.proofs.lemmas.List.{drop_all}
use Rattle.report_text.specs.Trace.{trace}
use Rattle.report_text.proofs.Written.{begins, as_left, writes, breaks, ends}
use Rattle.report_text.proofs.Lines.{keyed, next_record}
use Rattle.report_text.proofs.trace.write_trace.Goals as goal

pub print_record-requires : goal.print_record-requires
print_record-requires g c = keyed (g.R.Rig.state c.args.rig.now).log c.loop-i.i c.logged.result.now (g.met.R.Rig.keyed c.args.rig.now) c.logged.ensures

pub loop-i-init : goal.loop-i-init
loop-i-init g c = begins

pub returns-in_err-print_record : goal.returns-in_err-print_record
returns-in_err-print_record g c =
    let here : c.loop-i.i < length (g.R.Rig.state c.args.rig.now).log = omega (arith, c.loop-i-test.true, c.records-i-end.ensures) in
    let next = next_record c.loop-i.i (g.R.Rig.state c.args.rig.now).log c.logged.result.now here c.logged.ensures in
    breaks (trace (drop (c.loop-i.i + 1) (g.R.Rig.state c.args.rig.now).log)) c.from_residual.result c.from_residual.ensures.0 (as_left next c.loop-i.invariant) c.in_err-print_record.ensures

pub loop-i-preserved : goal.loop-i-preserved
loop-i-preserved g c =
    let here : c.loop-i.i < length (g.R.Rig.state c.args.rig.now).log = omega (arith, c.loop-i-test.true, c.records-i-end.ensures) in
    let next = next_record c.loop-i.i (g.R.Rig.state c.args.rig.now).log c.logged.result.now here c.logged.ensures in
    writes (as_left next c.loop-i.invariant) c.in_ok-print_record.ensures

pub returns : goal.returns
returns g c = ends c.loop-i.invariant (ap trace (drop_all c.loop-i.i (g.R.Rig.state c.args.rig.now).log (omega (arith, c.loop-i-test.false, c.records-i-end.ensures))))
