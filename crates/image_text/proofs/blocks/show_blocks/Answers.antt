use Rattle.std.proofs.Common.{◌∙◌}
use Rattle.image_blocks.specs.Images.{units_open}
use Rattle.image_text.specs.Shown.{text_of}
use Rattle.image_text.proofs.ShowShowing.{some_ended}
use Rattle.dix_base.proofs.Counts.{rose_later}
use Rattle.image_text.proofs.blocks.show_blocks.Goals as goal

pub returns-in-Err-clause-shown : goal.returns-in-Err-clause-shown
returns-in-Err-clause-shown g c =
    let us = units_open c.args.image.now in (
      rose_later _ _ _ c.show_all-ended.ensures.sinks c.in-Err.ensures.cause,
      some_ended c.show_all-ended.result (text_of c.args.only_bad us c.args.place) us c.args.place _ _ _ _ _ _ _ _ c.flush.ensures.same c.show_all-ended.ensures.shown,
    )

pub returns-in-Ok-clause-calm : goal.returns-in-Ok-clause-calm
returns-in-Ok-clause-calm g c = λ h. c.in-Ok.ensures.calm ∙ c.show_all-ended.ensures.calm h
