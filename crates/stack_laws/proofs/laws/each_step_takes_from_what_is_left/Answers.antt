use Rattle.stack_laws.proofs.Measure.{falls, counted-keeps}
use Rattle.stack_laws.proofs.laws.each_step_takes_from_what_is_left.Goals as goal

pub returns : goal.returns
returns c = record {
  falls = λ p v t cut fates on s h a. falls p v t cut fates s on h a;
  counted = λ p v t cut fates on s h a k. counted-keeps p v t cut fates s on h a k;
}
