use Rattle.std.proofs.Common.{refl, subst}
use Rattle.flip_sweep.specs.Swept.{Sweep, SweepEnds}
use Rattle.flip_sweep.proofs.sweep.sweep_script.Goals as goal

pub returns-in-Err-clause-swept : goal.returns-in-Err-clause-swept
returns-in-Err-clause-swept g c = (c.in-Err.ensures.cause, refl, refl)

pub returns-clause-swept : goal.returns-clause-swept
returns-clause-swept g c =
    subst (λ (w : Sweep). SweepEnds c.sweep_ground.result w (g.O.Sink.faults c.args.out.now) (g.O.Sink.faults c.sweep_ground.new.out) (g.O.Sink.taken c.args.out.now) (g.O.Sink.taken c.sweep_ground.new.out)) c.in-Ok.ensures.swept c.sweep_ground.ensures.swept
