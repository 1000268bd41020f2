use Rattle.std.proofs.Common.{refl}
use Rattle.headline.proofs.schedule.no_schedule_has_a_part.Goals as goal

pub returns : goal.returns
returns c = record {
  walked = λ script other image. refl;
  left = λ script other image. refl;
  setting = λ script other image. refl;
  map = λ script other image. refl;
  mirrored = λ script other image. refl;
  mended = λ script other image. refl;
}
