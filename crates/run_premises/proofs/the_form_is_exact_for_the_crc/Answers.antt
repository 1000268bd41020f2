use Rattle.run_premises.proofs.Exact.{exact}
use Rattle.run_premises.proofs.the_form_is_exact_for_the_crc.Goals as goal

pub returns : goal.returns
returns c = exact
