use Rattle.run_premises.proofs.Near.{near_seen}
use Rattle.run_premises.proofs.near_flips_are_seen.Goals as goal

pub returns : goal.returns
returns c = near_seen
