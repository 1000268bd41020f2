use Rattle.mirror_laws.proofs.Sizes.{steady_keeps}
use Rattle.mirror_laws.proofs.on_legs.a_repair_keeps_the_sizes_of_stored_blocks.Goals as goal

pub returns : goal.returns
returns c = λ m half opening u n r legs sizes l kept. steady_keeps m half opening u n r legs sizes l kept
