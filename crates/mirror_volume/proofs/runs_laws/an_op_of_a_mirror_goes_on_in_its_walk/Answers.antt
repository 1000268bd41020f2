use Rattle.mirror_volume.proofs.Onward.{on-and-on}
use Rattle.mirror_volume.proofs.runs_laws.an_op_of_a_mirror_goes_on_in_its_walk.Goals as goal

pub returns : goal.returns
returns c = on-and-on c.a_read_on_a_leg_goes_its_ways.ensures
