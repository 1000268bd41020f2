use Rattle.mirror_form_laws.proofs.Legs.{one_good}
use Rattle.mirror_form_laws.proofs.each_block_of_a_mirror_has_a_leg_by_its_form.Goals as goal

pub returns : goal.returns
returns c = λ m half ops opening form none. one_good m half ops opening form none
