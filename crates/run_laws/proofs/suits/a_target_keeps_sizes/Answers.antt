use Rattle.run_laws.proofs.AtTarget.{suits_target}
use Rattle.run_laws.proofs.suits.a_target_keeps_sizes.Goals as goal

pub returns : goal.returns
returns c = λ m opening b h. suits_target m opening b h
