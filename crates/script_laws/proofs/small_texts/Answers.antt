use Rattle.script_laws.proofs.Examples.{bound_examples, read_examples}
use Rattle.script_laws.proofs.small_texts.Goals as goal

pub returns : goal.returns
returns c = record { read = read_examples; bound = bound_examples }
