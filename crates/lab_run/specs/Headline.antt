use Rattle.call_verdict.specs.declared.status.Status.{Status}
use Rattle.lab_run.specs.Grammar.{command_in}
use Rattle.lab_run.specs.Calls.{Facts}
use Rattle.lab_run.specs.Commands.{Keeps, work_of}
use Rattle.lab_run.specs.Sinks.{EndedOver, IsCompleteOver, Sunk}

-- What a call carries, whatever its source, rig, stores and sinks are: its verdict with the cause, by its command, and which sink has its text; what it answers to images and texts that are told; and what is as before, however it ends.
pub record Carries (f : Facts) (out says : Sunk) (result : Status) : Type 0 where
  pub ended : EndedOver (work_of (command_in f.words)) f out says result
  pub complete : IsCompleteOver (work_of (command_in f.words)) f out says result
  pub kept : Keeps (command_in f.words) f
