use Rattle.std.proofs.Common.{refl}
use Rattle.dix_run.specs.Commands.{modes_work}
use Rattle.dix_run.specs.Verdict.{dix, no_memory}
use Rattle.call_verdict.proofs.Verdicts.{done, refused}
use Rattle.dix_run.proofs.modes.modes.Goals as goal

pub returns-in-Ok-clause-ended : goal.returns-in-Ok-clause-ended
returns-in-Ok-clause-ended g c = λ f rig source. done dix (modes_work c.args.ty) tt f _ _ _ _ c.finish.result (c.modes_text.ensures.first, rig, source) (rw (c.deref.ensures.value, c.in-Ok.ensures.text) at c.finish.ensures.written)

pub returns-in-Err-clause-ended : goal.returns-in-Err-clause-ended
returns-in-Err-clause-ended g c = λ f rig source. refused dix (modes_work c.args.ty) no_memory f _ _ _ _ c.refuse.result (refl, rig, source) c.refuse.ensures.written
