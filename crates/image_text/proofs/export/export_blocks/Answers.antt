use Rattle.std.proofs.Common.{◌∙◌}
use Rattle.image_blocks.specs.Images.{units_open}
use Rattle.image_text.proofs.Dumping.{some_ended}
use Rattle.dix_base.proofs.Counts.{rose_later}
use Rattle.image_text.proofs.export.export_blocks.Goals as goal

pub returns-in-Err-clause-dumped : goal.returns-in-Err-clause-dumped
returns-in-Err-clause-dumped g c =
    let us = units_open c.args.image.now in (
      rose_later _ _ _ c.export_all-ended.ensures.sinks c.in-Err.ensures.cause,
      some_ended c.export_all-ended.result c.args.layout us c.args.place _ _ _ _ _ _ _ _ c.flush.ensures.same c.export_all-ended.ensures.dumped,
    )

pub returns-in-Ok-clause-calm : goal.returns-in-Ok-clause-calm
returns-in-Ok-clause-calm g c = λ h. c.in-Ok.ensures.calm ∙ c.export_all-ended.ensures.calm h
