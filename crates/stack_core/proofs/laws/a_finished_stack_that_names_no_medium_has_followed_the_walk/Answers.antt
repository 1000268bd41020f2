use Rattle.std.proofs.Common.{Some}
use Rattle.stack_core.proofs.NoMedium.{walks_straight}
use Rattle.stack_core.proofs.laws.a_finished_stack_that_names_no_medium_has_followed_the_walk.Goals as goal

pub returns : goal.returns
returns c = λ m n opening first s us armed st log k w none e. walks_straight m n opening first s (Some us) armed st log k w none e
