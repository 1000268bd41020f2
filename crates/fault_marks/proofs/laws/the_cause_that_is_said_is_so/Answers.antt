use Rattle.fault_marks.proofs.Causes.{so}
use Rattle.fault_marks.proofs.laws.the_cause_that_is_said_is_so.Goals as goal

pub returns : goal.returns
returns c = so
