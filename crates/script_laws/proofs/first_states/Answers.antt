use Rattle.script_laws.proofs.Examples.{state_examples}
use Rattle.script_laws.proofs.first_states.Goals as goal

pub returns : goal.returns
returns c = state_examples
