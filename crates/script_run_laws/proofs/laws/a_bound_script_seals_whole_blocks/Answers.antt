use Rattle.script_run_laws.proofs.Standing.{seals-whole}
use Rattle.script_run_laws.proofs.laws.a_bound_script_seals_whole_blocks.Goals as goal

pub returns : goal.returns
returns c = seals-whole
