use Rattle.lab_laws.proofs.Reading.{text_reads}
use Rattle.lab_laws.proofs.again.vectors_are_a_list_again.Goals as goal

pub returns : goal.returns
returns c = text_reads
