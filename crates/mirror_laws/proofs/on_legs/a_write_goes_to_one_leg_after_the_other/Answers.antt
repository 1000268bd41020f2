use Rattle.mirror_laws.proofs.WriteByLegs.{writes_by_legs}
use Rattle.mirror_laws.proofs.on_legs.a_write_goes_to_one_leg_after_the_other.Goals as goal

pub returns : goal.returns
returns c = λ m half count i v n body app s legs within counted. writes_by_legs m half legs count i v n body app s counted within
