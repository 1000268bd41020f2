use Rattle.mirror_volume.proofs.Repairs.{repair-goes}
use Rattle.mirror_volume.proofs.runs_laws.a_repair_of_a_mirror_is_that_of_its_walk.Goals as goal

pub returns : goal.returns
returns c = λ s devices us now left sides replies new runs bound units stored marked stands by walk.
    repair-goes c.a_read_with_tuples_on_a_leg_goes_its_ways.ensures s devices bound us now left sides replies new runs units stored marked stands by walk
