use Rattle.mirror_volume.proofs.Enough.{reads-last, was-enough}
use Rattle.mirror_volume.proofs.laws.one_good_leg_is_enough.Goals as goal

pub returns-clause-reads : goal.returns-clause-reads
returns-clause-reads c = reads-last c.a_mirror_reads_the_last_write.ensures

pub returns-clause-repaired : goal.returns-clause-repaired
returns-clause-repaired c = was-enough c.a_mirror_reads_the_last_write.ensures c.a_repair_makes_both_legs_equal.ensures
