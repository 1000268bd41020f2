use Rattle.lab_laws.proofs.Blocks.{made_clean}
use Rattle.lab_laws.proofs.Made.{claims_clean, format_makes, head_kept, holds_clean, import_makes, runs_clean}
use Rattle.lab_laws.proofs.plain.a_plain_import_is_clean.Goals as goal

pub returns-clause-blocks : goal.returns-clause-blocks
returns-clause-blocks c = made_clean

pub returns-clause-formatted : goal.returns-clause-formatted
returns-clause-formatted c = format_makes

pub returns-clause-imported : goal.returns-clause-imported
returns-clause-imported c = import_makes

pub returns-clause-head : goal.returns-clause-head
returns-clause-head c = head_kept

pub returns-clause-devices : goal.returns-clause-devices
returns-clause-devices c = holds_clean

pub returns-clause-run : goal.returns-clause-run
returns-clause-run c = runs_clean

pub returns-clause-claim : goal.returns-clause-claim
returns-clause-claim c = claims_clean
