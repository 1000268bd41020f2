use Rattle.mirror_laws.proofs.Stale.{never_two_stale}
use Rattle.mirror_laws.proofs.no_block_of_a_mirror_has_two_stale_marks.Goals as goal

pub returns : goal.returns
returns c = λ m half ops opening u. never_two_stale m half ops opening u
