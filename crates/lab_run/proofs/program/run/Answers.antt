use Rattle.lab_run.proofs.Carrying.{carried_done, carried_refused}
use Rattle.lab_run.proofs.program.run.Goals as goal

pub returns-in-Ok : goal.returns-in-Ok
returns-in-Ok g c = record { carries = carried_done _ _ _ _ _ _ _ _ _ c.in-Ok.status c.in-Ok.ensures.came c.in-Ok.ensures.handed }

pub returns-in-Err : goal.returns-in-Err
returns-in-Err g c = record { carries = carried_refused _ _ _ _ _ _ _ _ _ _ _ c.in-Err.refusal c.refuse.result c.in-Err.ensures.came c.refuse.ensures.written c.refuse.ensures.handed }
