use Rattle.std.proofs.Common.{ap, ◌+◌, drop, ◌∙◌}
use Rattle.std.proofs.lemmas.List.{drop_all}
use Rattle.report_text.specs.Report.{bad_lines}
use Rattle.report_text.proofs.Written.{begins, as_left, writes, breaks, ends}
use Rattle.report_text.proofs.Lines.{next_bad}
use Rattle.report_text.proofs.report.print_blocks.Goals as goal

pub loop-block-init : goal.loop-block-init
loop-block-init g c = begins

pub returns-in_err-write_all : goal.returns-in_err-write_all
returns-in_err-write_all g c =
    let next = next_bad c.args.number c.loop-block.block-index c.args.blocks.now _ c.as_slice.result.now c.loop-block-test.true (c.as_slice.ensures.value ∙ c.line_of.ensures) in
    breaks (bad_lines c.args.number (drop (c.loop-block.block-index + 1) c.args.blocks.now)) c.from_residual.result c.from_residual.ensures.0 (as_left next c.loop-block.invariant) c.in_err-write_all.ensures

pub loop-block-preserved : goal.loop-block-preserved
loop-block-preserved g c =
    let next = next_bad c.args.number c.loop-block.block-index c.args.blocks.now _ c.as_slice.result.now c.loop-block-test.true (c.as_slice.ensures.value ∙ c.line_of.ensures) in
    writes (as_left next c.loop-block.invariant) c.in_ok-write_all.ensures

pub returns : goal.returns
returns g c = ends c.loop-block.invariant (ap (bad_lines c.args.number) (drop_all c.loop-block.block-index c.args.blocks.now c.loop-block-test.false))
