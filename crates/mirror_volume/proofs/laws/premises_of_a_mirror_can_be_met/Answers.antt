use Rattle.mirror_volume.proofs.PremiseRows.{bound, failing_bound, failing_row, formed_row, one_good_row, still_bound, still_row}
use Rattle.mirror_volume.proofs.laws.premises_of_a_mirror_can_be_met.Goals as goal

pub returns-clause-one_good : goal.returns-clause-one_good
returns-clause-one_good c = one_good_row

pub returns-clause-formed : goal.returns-clause-formed
returns-clause-formed c = formed_row

pub returns-clause-failing : goal.returns-clause-failing
returns-clause-failing c = failing_row

pub returns-clause-still : goal.returns-clause-still
returns-clause-still c = still_row

pub returns-clause-bound : goal.returns-clause-bound
returns-clause-bound c = bound

pub returns-clause-failing_bound : goal.returns-clause-failing_bound
returns-clause-failing_bound c = failing_bound

pub returns-clause-still_bound : goal.returns-clause-still_bound
returns-clause-still_bound c = still_bound
