use Rattle.walk_laws.proofs.AnyOrder.{in_any_order}
use Rattle.walk_laws.proofs.script_laws.any_order_is_the_walk.Goals as goal

pub returns : goal.returns
returns c = λ m ops places before after answers l. in_any_order m ops places before after answers l
