use Rattle.run_laws.specs.Records.{recorded}
use Rattle.run_laws.proofs.Backs.{backs}
use Rattle.run_laws.proofs.record.a_walk_over_its_record_is_backed.Goals as goal

pub returns : goal.returns
returns c = λ m ops opening log h. backs m ops opening (recorded m log) h
