use Rattle.std.proofs.Common.{◌∙◌}
use Rattle.pi_guard.specs.Windows.{wide_register}
use Rattle.pi_guard.proofs.wide.whole_window.Goals as goal

pub returns : goal.returns
unfolding wide_register
returns c = (c.loop-at.invariant.0, c.narrowed.ensures ∙ c.last_window-last.ensures c.args.start c.loop-at.invariant.1)
