use Rattle.std.proofs.Common.{◌∙◌}
use Rattle.std.specs.Prelude.{codes}
use Rattle.dix_run.proofs.ScrubLines.{text_more}
use Rattle.dix_run.proofs.scrub_text.scrub_text.Goals as goal

pub loop-one-preserved : goal.loop-one-preserved
loop-one-preserved c =
    text_more (codes "dix scrub 1\n") c.loop-one.text.items c.extend_from_slice-in-loop-one.new.self.items c.as_slice.result.now c.args.found.now c.loop-one.one-index _ c.loop-one-test.true c.loop-one.invariant
    c.in_ok-extend_from_slice-2.ensures.items (c.as_slice.ensures.value ∙ c.line_of.ensures)
