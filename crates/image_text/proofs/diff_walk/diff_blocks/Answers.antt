use Rattle.std.proofs.Common.{◌∙◌}
use Rattle.image_blocks.specs.Images.{units_open}
use Rattle.image_text.specs.Compared.{places, diff_of}
use Rattle.image_text.proofs.Comparing.{some_ended}
use Rattle.dix_base.proofs.Counts.{rose_later}
use Rattle.image_text.proofs.diff_walk.diff_blocks.Goals as goal

pub returns-in-Err-clause-compared : goal.returns-in-Err-clause-compared
returns-in-Err-clause-compared g c =
    let p = places (units_open c.args.sides.image.now) c.args.sides.place (units_open c.args.sides.other_image.now) c.args.sides.to in (
      rose_later _ _ _ c.diff_all-ended.ensures.sinks c.in-Err.ensures.cause,
      some_ended c.diff_all-ended.result (diff_of p) p _ _ _ _ _ _ c.flush.ensures.same c.diff_all-ended.ensures.compared,
    )

pub returns-in-Ok-clause-calm : goal.returns-in-Ok-clause-calm
returns-in-Ok-clause-calm g c = λ h. c.in-Ok.ensures.calm ∙ c.diff_all-ended.ensures.calm h
