use Rattle.mirror_laws.proofs.ReadByLegs.{reads_by_legs}
use Rattle.mirror_laws.proofs.on_legs.a_read_asks_one_leg_after_the_other.Goals as goal

pub returns : goal.returns
returns c = λ m half count i v n body s legs within total_is counted once fit. reads_by_legs m half legs count i v n body s counted within total_is once fit
