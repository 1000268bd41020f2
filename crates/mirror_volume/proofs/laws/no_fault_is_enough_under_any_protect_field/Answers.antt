use Rattle.mirror_volume.proofs.Formed.{still-enough, still-reads}
use Rattle.mirror_volume.proofs.laws.no_fault_is_enough_under_any_protect_field.Goals as goal

pub returns-clause-reads : goal.returns-clause-reads
returns-clause-reads c = λ s devices us over bytes p. still-reads s devices us over c.a_still_mirror_serves_the_last_write_under_any_protect_field.ensures bytes p

pub returns-clause-repaired : goal.returns-clause-repaired
returns-clause-repaired c = λ s devices us left marks repaired lost over bytes p done_as.
    still-enough s devices us over c.a_still_mirror_serves_the_last_write_under_any_protect_field.ensures left marks repaired lost bytes p done_as
