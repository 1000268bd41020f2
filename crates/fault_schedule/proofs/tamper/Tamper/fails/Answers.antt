use Rattle.std.proofs.Common.{◌∙◌}
use Rattle.fault_schedule.proofs.Spans.{fails-same}
use Rattle.fault_schedule.proofs.tamper.Tamper.fails.Goals as goal

pub returns : goal.returns
returns c = c.any_fails.ensures ∙ fails-same _ _ c.args.label c.lines_of.ensures
