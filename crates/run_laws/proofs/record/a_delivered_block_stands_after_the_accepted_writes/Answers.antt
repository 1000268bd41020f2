use Rattle.run_laws.specs.Records.{recorded}
use Rattle.run_laws.proofs.Earlier.{stands_after}
use Rattle.run_laws.proofs.record.a_delivered_block_stands_after_the_accepted_writes.Goals as goal

pub returns : goal.returns
returns c = λ m before after owner v n k body tuples opening log replies backed empty l none. stands_after m before after owner v n k body tuples opening (recorded m log) replies backed empty l none
