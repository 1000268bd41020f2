use Rattle.run_laws.proofs.Fallen.{falling_in_any_order}
use Rattle.run_laws.proofs.order.moves_in_any_order_are_the_falling_walk.Goals as goal

pub returns : goal.returns
returns c = λ m falls fine n ops opening now places answers run leaves l. falling_in_any_order m falls fine n ops opening now places answers run leaves l
