use Rattle.stack_laws.proofs.Keeps.{keeps}
use Rattle.stack_laws.proofs.laws.each_step_keeps_the_view_sound.Goals as goal

pub returns : goal.returns
returns c = λ p v t cut fates on s h a. keeps p v t cut fates on s h a
