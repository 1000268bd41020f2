use Rattle.stack_laws.proofs.Comes.{comes-end, comes-few}
use Rattle.stack_laws.proofs.laws.a_run_of_good_blocks_is_known_before.Goals as goal

pub returns : goal.returns
returns c = record { few = comes-few; good = comes-end }
