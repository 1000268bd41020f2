use Rattle.lab_run.proofs.Explains.{as_cause, marked, misfit, stopped, told}
use Rattle.lab_run.proofs.explaining.explain.Goals as goal

pub returns-in-Ok-clause-came : goal.returns-in-Ok-clause-came
returns-in-Ok-clause-came g c = λ first second. told _ _ _ _ _ _ _ first second c.in-Ok.told _ _ _ _ c.tell_run.result c.explain_source.ensures.count (rw c.image_of.ensures at c.in-Ok.ensures.verdict) c.tell_run.ensures.written

pub returns-in-Err-Marked-clause-came : goal.returns-in-Err-Marked-clause-came
returns-in-Err-Marked-clause-came g c = λ first second.
    marked _ _ _ _ _ _ _ first second c.in-Err-Marked.said.items c.deref.result.now _ _ _ _ c.finish.result c.explain_source.ensures.count (as_cause _ _ _ c.in-Err-Marked.field-0-is (rw c.image_of.ensures at c.in-Err-Marked.ensures.verdict))
    c.deref.ensures.value c.finish.ensures.written

pub returns-in-Err-Misfit-clause-came : goal.returns-in-Err-Misfit-clause-came
returns-in-Err-Misfit-clause-came g c = λ first second.
    misfit _ _ _ _ _ _ _ first second c.in-Err-Misfit.said.items c.deref-in-Err-Misfit.result.now _ _ _ _ c.finish-in-Err-Misfit.result c.explain_source.ensures.count (as_cause _ _ _ c.in-Err-Misfit.field-0-is (rw c.image_of.ensures at c.in-Err-Misfit.ensures.verdict))
    c.deref-in-Err-Misfit.ensures.value c.finish-in-Err-Misfit.ensures.written

pub returns-in-Err-Refused-clause-came : goal.returns-in-Err-Refused-clause-came
returns-in-Err-Refused-clause-came g c = λ first second.
    stopped _ _ _ _ _ _ _ first second c.in-Err-Refused.reason _ _ c.explain_source.ensures.count (as_cause _ _ _ c.in-Err-Refused.field-0-is (rw c.image_of.ensures at c.in-Err-Refused.ensures.verdict))
