use Rattle.std.proofs.Common.{take, ap, ◌∙◌}
use Rattle.pi_guard.specs.Register.{register}
use Rattle.pi_guard.specs.Trails.{after_64, owed}
use Rattle.pi_guard.proofs.Windows.{more}
use Rattle.pi_guard.proofs.narrow.trail_after.Goals as goal

pub returns : goal.returns
unfolding owed
returns c r h =
    let xs = c.args.part.now in
    c.next_trail.ensures (register r (take c.args.at xs)) h ∙ ap after_64 (more 16 r c.args.at xs)
