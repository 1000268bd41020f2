use Rattle.vector_runs.proofs.Wanting.{not_taken_so, taken_so}
use Rattle.vector_runs.proofs.wanted.take_wanted.Goals as goal

pub returns-clause-taken : goal.returns-clause-taken
returns-clause-taken g c = taken_so c.wanted_of.result c.in_ok-text.text.items _ _ _ _ c.in_ok-text.ensures.whole c.in_ok-text.ensures.calm (rw c.deref.ensures.value at c.wanted_of.ensures.held)

pub returns-clause-cause : goal.returns-clause-cause
returns-clause-cause g c = not_taken_so c.wanted_of.result c.in_ok-text.text.items _ _ _ _ c.in_ok-text.ensures.whole (rw c.deref.ensures.value at c.wanted_of.ensures.held)
