use Rattle.run_laws.specs.Records.{recorded}
use Rattle.run_laws.proofs.OwnRecord.{backs_itself, same_walk}
use Rattle.run_laws.proofs.record.a_walk_is_the_walk_over_its_record.Goals as goal

pub returns-clause-same : goal.returns-clause-same
returns-clause-same c = λ m ops opening log h. same_walk m ops opening (recorded m log) h

pub returns-clause-backed : goal.returns-clause-backed
returns-clause-backed c = λ m ops opening log h. backs_itself m ops opening (recorded m log) h
