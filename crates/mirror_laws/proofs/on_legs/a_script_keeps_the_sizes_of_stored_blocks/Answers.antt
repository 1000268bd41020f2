use Rattle.mirror_laws.proofs.Sizes.{ops_keep}
use Rattle.mirror_laws.proofs.on_legs.a_script_keeps_the_sizes_of_stored_blocks.Goals as goal

pub returns : goal.returns
returns c = λ m half count opening i ops s legs sizes places kept. ops_keep m half opening legs sizes count i ops s places kept
