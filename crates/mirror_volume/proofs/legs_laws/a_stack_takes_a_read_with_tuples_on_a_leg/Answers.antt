use Rattle.mirror_volume.proofs.Suits.{read_pi_ready}
use Rattle.mirror_volume.proofs.legs_laws.a_stack_takes_a_read_with_tuples_on_a_leg.Goals as goal

pub returns : goal.returns
returns c = λ s t devices half p is fits. read_pi_ready s t devices half p is fits
