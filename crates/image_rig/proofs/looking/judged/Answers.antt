use Rattle.std.proofs.Common.{sym, ◌∙◌}
use Rattle.image_rig.specs.Heads.{head_in}
use Rattle.image_rig.proofs.Heads.{is_head_fault}
use Rattle.image_rig.proofs.looking.judged.Goals as goal

pub returns-in-Some-clause-judges : goal.returns-in-Some-clause-judges
returns-in-Some-clause-judges c = is_head_fault (head_in c.args.head.now) c.in-Some.fault (sym c.fault.ensures ∙ c.in-Some.is)
