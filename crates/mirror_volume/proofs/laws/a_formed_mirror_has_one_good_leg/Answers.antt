use Rattle.mirror_volume.proofs.Formed.{good-run}
use Rattle.mirror_volume.proofs.laws.a_formed_mirror_has_one_good_leg.Goals as goal

pub returns : goal.returns
returns c = λ s devices us over bytes p.
    good-run s devices us over c.faults_on_a_mirror_are_shown_by_their_form.ensures.accounted c.faults_on_a_mirror_are_shown_by_their_form.ensures.kept c.no_write_on_a_mirror_supplies_an_escape_by_its_form.ensures c.each_block_of_a_mirror_has_a_leg_by_its_form.ensures bytes p
