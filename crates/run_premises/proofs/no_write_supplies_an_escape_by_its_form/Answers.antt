use Rattle.run_premises.proofs.Escapes.{none_supplied}
use Rattle.run_premises.proofs.no_write_supplies_an_escape_by_its_form.Goals as goal

pub returns : goal.returns
returns c = λ m ops opening h. none_supplied m 1 ops opening h
