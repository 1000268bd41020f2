use Rattle.mirror_laws.proofs.Stretches.{stretch_is}
use Rattle.mirror_laws.proofs.on_legs.a_repair_reads_a_stretch_before_it_writes.Goals as goal

pub returns : goal.returns
returns c = λ m half u n r legs l. stretch_is m half u n r legs l
