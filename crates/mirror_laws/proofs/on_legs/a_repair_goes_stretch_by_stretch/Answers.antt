use Rattle.mirror_laws.proofs.Stretches.{repair_join}
use Rattle.mirror_laws.proofs.on_legs.a_repair_goes_stretch_by_stretch.Goals as goal

pub returns : goal.returns
returns c = λ m half u n k r. repair_join m half u n k r
