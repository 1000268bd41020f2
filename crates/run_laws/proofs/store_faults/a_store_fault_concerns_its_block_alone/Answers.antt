use Rattle.run_laws.proofs.Falling.{each_is_served}
use Rattle.run_laws.proofs.store_faults.a_store_fault_concerns_its_block_alone.Goals as goal

pub returns : goal.returns
returns c = λ m falls ops opening earlier later step run e. each_is_served m falls ops opening earlier later step run e
