use Rattle.mirror_volume.proofs.WithTuples.{read_pi_goes}
use Rattle.mirror_volume.proofs.legs_laws.a_read_with_tuples_on_a_leg_goes_its_ways.Goals as goal

pub returns : goal.returns
returns c = λ s t half p us left pool log replies is fits made stored w. read_pi_goes s t half p is fits us c.a_target_keeps_sizes.ensures made stored left pool log replies w
