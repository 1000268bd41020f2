use Rattle.std.proofs.Common.{ap, sym, ◌∙◌}
use Rattle.rig_api.specs.Headers.{image_size, is_layout}
use Rattle.image_rig.specs.Heads.{head_in}
use Rattle.image_rig.proofs.Heads.{right_size}
use Rattle.image_blocks.proofs.opening.open_image.Goals as goal
use Rattle.rig_api.proofs.HeadLaws.{right_layout}

pub invariant_of-result : goal.invariant_of-result
invariant_of-result g c = record { layout = ap is_layout c.units.ensures ∙ right_layout (head_in c.look.new.head) c.in_ok-look.ensures.judged }

pub returns-clause-judged : goal.returns-clause-judged
returns-clause-judged g c = record {
  head = head_in c.look.new.head;
  judged = c.in_ok-look.ensures.judged;
  told = c.in_ok-look.ensures.head;
  units = c.units.ensures;
  held = sym c.in_ok-look.ensures.size ∙ right_size (head_in c.look.new.head) c.in_ok-look.ensures.judged ∙ ap image_size (sym c.units.ensures);
}
