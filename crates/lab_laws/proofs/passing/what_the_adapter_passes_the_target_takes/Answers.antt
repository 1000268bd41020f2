use Rattle.lab_laws.proofs.Group.{command_passes}
use Rattle.lab_laws.proofs.Taken.{block_passes}
use Rattle.lab_laws.proofs.Walks.{walk_passes}
use Rattle.lab_laws.proofs.Uncut.{run_passes, vectors_pass}
use Rattle.lab_laws.proofs.passing.what_the_adapter_passes_the_target_takes.Goals as goal

pub returns-clause-block : goal.returns-clause-block
returns-clause-block c = block_passes

pub returns-clause-command : goal.returns-clause-command
returns-clause-command c = command_passes

pub returns-clause-walk : goal.returns-clause-walk
returns-clause-walk c = walk_passes

pub returns-clause-run : goal.returns-clause-run
returns-clause-run c = run_passes

pub returns-clause-vectors : goal.returns-clause-vectors
returns-clause-vectors c = vectors_pass
