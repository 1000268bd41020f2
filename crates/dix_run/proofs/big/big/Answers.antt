use Rattle.std.proofs.Common.{refl}
use Rattle.dix_run.specs.Commands.{big_work}
use Rattle.dix_run.specs.Verdict.{dix, no_memory}
use Rattle.call_verdict.proofs.Verdicts.{done, refused}
use Rattle.dix_run.proofs.big.big.Goals as goal

pub returns-in-Ok-clause-ended : goal.returns-in-Ok-clause-ended
returns-in-Ok-clause-ended g c = λ f rig source.
    done dix (big_work c.args.n c.args.seed) c.in-Ok.run' f _ _ _ _ c.finish.result (c.in-Ok.ensures, rig, source) (rw (c.status_for.ensures, c.as_slice.ensures.value, c.big_text.ensures) at c.finish.ensures.written)

pub returns-in-Err-clause-ended : goal.returns-in-Err-clause-ended
returns-in-Err-clause-ended g c = λ f rig source. refused dix (big_work c.args.n c.args.seed) no_memory f _ _ _ _ c.refuse.result (refl, rig, source) c.refuse.ensures.written
