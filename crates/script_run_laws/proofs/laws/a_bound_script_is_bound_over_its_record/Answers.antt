use Rattle.script_run_laws.proofs.BoundRuns.{over-record}
use Rattle.script_run_laws.proofs.laws.a_bound_script_is_bound_over_its_record.Goals as goal

pub returns : goal.returns
returns c = λ m s t devices logs opening es k is fit. over-record m es fit s t devices logs opening k is
