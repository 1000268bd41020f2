use Rattle.run_laws.proofs.Ordered.{in_any_order}
use Rattle.run_laws.proofs.order.moves_in_any_order_are_the_walk.Goals as goal

pub returns : goal.returns
returns c = λ m fine n ops opening now places answers run l. in_any_order m fine n ops opening now places answers run l
