use Rattle.std.proofs.Common.{ap, ◌∙◌}
use Rattle.pi_guard.specs.Windows.{window_register}
use Rattle.pi_guard.specs.Trails.{after_64}
use Rattle.pi_guard.proofs.narrow.first_trail.Goals as goal

pub returns : goal.returns
unfolding window_register
returns c = c.trail_of.ensures ∙ ap after_64 c.first_window-first.ensures
