use Rattle.stack_walk_laws.proofs.Served.{reads}
use Rattle.stack_walk_laws.proofs.falls_end.a_stack_reads_the_last_write_or_fails_at_the_medium.Goals as goal

pub returns : goal.returns
returns c = λ m bytes before after owner v n k body tuples opening pages blocks replies es run room l e. reads m bytes before after owner v n k body tuples opening pages blocks replies es run room l e
