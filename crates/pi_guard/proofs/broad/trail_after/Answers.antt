use Rattle.std.proofs.Common.{take, subst}
use Rattle.pi_guard.specs.Register.{register}
use Rattle.pi_guard.specs.Broad.{Owes}
use Rattle.pi_guard.proofs.Windows.{more}
use Rattle.pi_guard.proofs.broad.trail_after.Goals as goal

pub returns : goal.returns
returns c r h =
    let xs = c.args.part.now in
    subst (λ v. Owes v c.next_trail.result) (more 32 r c.args.at xs) (c.next_trail.ensures (register r (take c.args.at xs)) h)
