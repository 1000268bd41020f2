use Rattle.walk_laws.proofs.AnyOrder.{calmly_in_any_order}
use Rattle.walk_laws.proofs.script_laws.any_calm_order_is_a_plain_map.Goals as goal

pub returns : goal.returns
returns c = λ m ops places before after answers run l. calmly_in_any_order m ops places before after answers run l
