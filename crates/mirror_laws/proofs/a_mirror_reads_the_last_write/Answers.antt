use Rattle.mirror_laws.proofs.Whole.{mirror_reads_last}
use Rattle.mirror_laws.proofs.a_mirror_reads_the_last_write.Goals as goal

pub returns : goal.returns
returns c = λ m devices half before after v n body opening run. mirror_reads_last m devices half before after v n body opening run
