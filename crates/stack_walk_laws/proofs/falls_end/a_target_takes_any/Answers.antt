use Rattle.std.proofs.Common.{length, sym, ◌∙◌}
use Rattle.std.proofs.lemmas.Bool.{eq-eqb}
use Rattle.stack_walk_laws.proofs.falls_end.a_target_takes_any.Goals as goal

pub returns : goal.returns
returns c = λ m opening b left at l. eq-eqb (length left) _ (l ∙ sym at.stored)
