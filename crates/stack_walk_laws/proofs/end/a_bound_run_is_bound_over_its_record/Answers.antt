use Rattle.stack_walk_laws.proofs.Binding.{bound_over}
use Rattle.stack_walk_laws.proofs.end.a_bound_run_is_bound_over_its_record.Goals as goal

pub returns : goal.returns
returns c = λ m fine n ops opening es run fit. bound_over m es fit fine n ops opening run
