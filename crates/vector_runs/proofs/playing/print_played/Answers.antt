use Rattle.vector_runs.proofs.playing.print_played.Goals as goal

pub returns-in-Ran-clause-wrote : goal.returns-in-Ran-clause-wrote
returns-in-Ran-clause-wrote g c = rw c.in-Ran.is c.print_records.ensures.wrote

pub returns-in-Listed-clause-wrote : goal.returns-in-Listed-clause-wrote
returns-in-Listed-clause-wrote g c = rw c.in-Listed.is (rw c.deref.ensures.value at c.print_list.ensures.wrote)
