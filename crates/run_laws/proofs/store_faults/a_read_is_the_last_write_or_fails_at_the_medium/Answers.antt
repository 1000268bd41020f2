use Rattle.run_laws.proofs.FallingOps.{reads_or_fails}
use Rattle.run_laws.proofs.store_faults.a_read_is_the_last_write_or_fails_at_the_medium.Goals as goal

pub returns : goal.returns
returns c = λ m falls before after owner v n k body tuples opening run room l. reads_or_fails m falls before after owner v n k body tuples opening l room run
