use Rattle.run_premises.proofs.Clean.{volume_left_clean}
use Rattle.run_premises.proofs.a_calm_run_leaves_its_volume_clean.Goals as goal

pub returns : goal.returns
returns c = volume_left_clean
