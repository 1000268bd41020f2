use Rattle.run_laws.specs.Records.{recorded}
use Rattle.run_laws.proofs.Between.{carries}
use Rattle.run_laws.proofs.record.a_log_of_the_walk_is_carried.Goals as goal

pub returns : goal.returns
returns c = λ m ops opening log h. carries m ops opening (recorded m log) h
