use Rattle.run_laws.proofs.Reading.{last_stored_or_first_layer}
use Rattle.run_laws.proofs.detection.a_read_is_the_last_stored_write_or_names_who_ends_it.Goals as goal

pub returns : goal.returns
returns c = λ m devices before after owner v n k body tuples opening run l. last_stored_or_first_layer m devices before after owner v n k body tuples opening run l
