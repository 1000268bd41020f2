use Rattle.std.proofs.Common.{◌+◌, ◌<◌, drop, ap, ◌∙◌}
use Rattle.std.proofs.lemmas.List.{drop_all}
use Rattle.std.proofs.lemmas.List.Elements.{All-get_or}
use Rattle.stack_ops.specs.declared.reply.BadBlock.{BadBlock}
use Rattle.volume_table.specs.Places.{volume_len}
use Rattle.run_words.specs.Texts.{listed_lines}
use Rattle.run_words.proofs.Lines.{next_listed}
use Rattle.report_text.proofs.Written.{as_left, begins, breaks, ends, writes}
use Rattle.run_words.proofs.listed.print_listed.Goals as goal

pub listed_line-requires-clause-inside : goal.listed_line-requires-clause-inside
listed_line-requires-clause-inside g c = All-get_or (λ (b : BadBlock). c.args.site.first + b.k < volume_len c.args.entries.now) c.args.blocks.now c.loop-block.block-index _ c.loop-block-test.true c.requires.inside

pub loop-block-init : goal.loop-block-init
loop-block-init g c = begins

pub returns-in_err-write_all : goal.returns-in_err-write_all
returns-in_err-write_all g c =
    let next = next_listed c.args.entries.now c.args.number c.loop-block.block-index c.args.site c.args.blocks.now _ c.as_slice.result.now c.loop-block-test.true (c.as_slice.ensures.value ∙ c.listed_line.ensures) in
    breaks (listed_lines c.args.entries.now c.args.number c.args.site (drop (c.loop-block.block-index + 1) c.args.blocks.now)) c.from_residual.result c.from_residual.ensures.0 (as_left next c.loop-block.invariant) c.in_err-write_all.ensures

pub loop-block-preserved : goal.loop-block-preserved
loop-block-preserved g c =
    let next = next_listed c.args.entries.now c.args.number c.loop-block.block-index c.args.site c.args.blocks.now _ c.as_slice.result.now c.loop-block-test.true (c.as_slice.ensures.value ∙ c.listed_line.ensures) in
    writes (as_left next c.loop-block.invariant) c.in_ok-write_all.ensures

pub returns : goal.returns
returns g c = ends c.loop-block.invariant (ap (listed_lines c.args.entries.now c.args.number c.args.site) (drop_all c.loop-block.block-index c.args.blocks.now c.loop-block-test.false))
