use Rattle.stack_laws.proofs.Enabled.{stuck, none-enabled}
use Rattle.stack_laws.proofs.laws.nothing_is_enabled_once_all_have_ended.Goals as goal

pub returns : goal.returns
returns c = λ p v s. (stuck p v s, none-enabled p v s)
