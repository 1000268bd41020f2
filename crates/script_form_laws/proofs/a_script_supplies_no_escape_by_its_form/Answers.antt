use Rattle.script_form_laws.proofs.Formed.{escapes}
use Rattle.script_form_laws.proofs.a_script_supplies_no_escape_by_its_form.Goals as goal

pub returns : goal.returns
returns c = λ s t us h. escapes s t us c.no_write_supplies_an_escape_by_its_form.ensures h
