use Rattle.mirror_volume.proofs.Enough.{read-done}
use Rattle.mirror_volume.proofs.laws.a_read_that_is_done_has_the_last_write.Goals as goal

pub returns : goal.returns
returns c = read-done
