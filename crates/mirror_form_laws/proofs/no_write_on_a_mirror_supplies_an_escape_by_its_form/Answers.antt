use Rattle.mirror_form_laws.proofs.Escapes.{none_supplied}
use Rattle.mirror_form_laws.proofs.no_write_on_a_mirror_supplies_an_escape_by_its_form.Goals as goal

pub returns : goal.returns
returns c = λ m half ops opening h. none_supplied m half ops opening h
