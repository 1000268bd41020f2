use Rattle.std.proofs.Common.{ap, ◌+◌, codes, drop}
use Rattle.std.proofs.lemmas.List.{drop_all}
use Rattle.report_text.specs.Report.{lines_from}
use Rattle.report_text.proofs.Written.{begins, as_left, writes, breaks, ends, stops_first}
use Rattle.report_text.proofs.Lines.{next_reply}
use Rattle.report_text.proofs.report.write_report.Goals as goal

pub returns-in_err-write_all : goal.returns-in_err-write_all
returns-in_err-write_all g c = stops_first (lines_from 1 c.args.replies.now) c.from_residual.result c.from_residual.ensures.0 c.in_err-write_all.ensures

pub loop-i-init : goal.loop-i-init
loop-i-init g c = writes {s = codes "dix report 1\n"} begins c.in_ok-write_all.ensures

pub returns-in_err-print_reply : goal.returns-in_err-print_reply
returns-in_err-print_reply g c =
    let next = next_reply c.loop-i.i c.args.replies.now c.index-replies-i.result c.loop-i-test.true c.index-replies-i.is in
    breaks (lines_from (c.loop-i.i + 1 + 1) (drop (c.loop-i.i + 1) c.args.replies.now)) c.from_residual-in_err-print_reply.result c.from_residual-in_err-print_reply.ensures.0 (as_left next c.loop-i.invariant) c.in_err-print_reply.ensures

pub loop-i-preserved : goal.loop-i-preserved
loop-i-preserved g c =
    let next = next_reply c.loop-i.i c.args.replies.now c.index-replies-i.result c.loop-i-test.true c.index-replies-i.is in
    writes (as_left next c.loop-i.invariant) c.in_ok-print_reply.ensures

pub returns : goal.returns
returns g c = ends c.loop-i.invariant (ap (lines_from (c.loop-i.i + 1)) (drop_all c.loop-i.i c.args.replies.now c.loop-i-test.false))
