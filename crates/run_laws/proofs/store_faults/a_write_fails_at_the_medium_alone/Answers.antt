use Rattle.run_laws.proofs.FallingWrites.{app_write_fails, own_write_fails}
use Rattle.run_laws.proofs.store_faults.a_write_fails_at_the_medium_alone.Goals as goal

pub returns-clause-own : goal.returns-clause-own
returns-clause-own c = λ m falls before after v n k body app opening run l own. own_write_fails m falls before after v n k body app opening run l own

pub returns-clause-brought : goal.returns-clause-brought
returns-clause-brought c = λ m falls before after v n k body tuples opening run room l own. app_write_fails m falls before after v n k body tuples opening run room l own
