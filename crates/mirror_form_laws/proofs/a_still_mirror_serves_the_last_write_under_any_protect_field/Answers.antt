use Rattle.mirror_form_laws.proofs.Still.{serves_last}
use Rattle.mirror_form_laws.proofs.a_still_mirror_serves_the_last_write_under_any_protect_field.Goals as goal

pub returns : goal.returns
returns c = λ m devices half ops opening is. serves_last c.a_mirror_reads_the_last_write.ensures c.a_repair_makes_both_legs_equal.ensures m devices half ops opening is
