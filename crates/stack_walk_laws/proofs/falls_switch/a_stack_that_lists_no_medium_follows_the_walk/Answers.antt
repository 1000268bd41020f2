use Rattle.stack_walk_laws.proofs.NoneFell.{none_fell}
use Rattle.stack_walk_laws.proofs.falls_switch.a_stack_that_lists_no_medium_follows_the_walk.Goals as goal

pub returns : goal.returns
returns c = λ m n ops opening status pages blocks es never f. none_fell m n ops opening status pages blocks es (λ i k fallen whole. never i k fallen) f
