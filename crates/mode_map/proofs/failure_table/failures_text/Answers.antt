use Rattle.mode_map.proofs.AllFound.{all_found}
use Rattle.mode_map.proofs.failure_table.failures_text.Goals as goal

pub returns-clause-found : goal.returns-clause-found
returns-clause-found c = all_found

pub returns-in_err-add_header-clause-found : goal.returns-in_err-add_header-clause-found
returns-in_err-add_header-clause-found c = all_found

pub returns-in_err-add_flips-clause-found : goal.returns-in_err-add_flips-clause-found
returns-in_err-add_flips-clause-found c = all_found

pub returns-in_err-add_strays-clause-found : goal.returns-in_err-add_strays-clause-found
returns-in_err-add_strays-clause-found c = all_found

pub returns-in_err-add_disk-clause-found : goal.returns-in_err-add_disk-clause-found
returns-in_err-add_disk-clause-found c = all_found

pub returns-in_err-add_conditions-clause-found : goal.returns-in_err-add_conditions-clause-found
returns-in_err-add_conditions-clause-found c = all_found
