use Rattle.run_premises.proofs.Clean.{devices_left_clean}
use Rattle.run_premises.proofs.a_calm_run_leaves_its_devices_clean.Goals as goal

pub returns : goal.returns
returns c = devices_left_clean
