use Rattle.std.proofs.Common.{refl}
use Rattle.lab_run.proofs.failing.failures.Goals as goal

pub returns-in-Ok-clause-comes : goal.returns-in-Ok-clause-comes
returns-in-Ok-clause-comes g c = λ f. (tt, c.failures_text.ensures.found, rw (c.deref.ensures.value, c.in-Ok.ensures.text) at c.finish.ensures.written)

pub returns-in-Err-clause-comes : goal.returns-in-Err-clause-comes
returns-in-Err-clause-comes g c = λ f. (refl, refl, refl)
