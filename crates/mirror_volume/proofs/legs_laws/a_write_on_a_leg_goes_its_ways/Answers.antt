use Rattle.mirror_volume.proofs.OnLeg.{write_goes}
use Rattle.mirror_volume.proofs.legs_laws.a_write_on_a_leg_goes_its_ways.Goals as goal

pub returns : goal.returns
returns c = λ s t half p app bytes us left pool log replies is fits whole w. write_goes s t half p is fits us app bytes whole left pool log replies w
