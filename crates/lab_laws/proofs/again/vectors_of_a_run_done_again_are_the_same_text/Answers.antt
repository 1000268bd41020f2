use Rattle.lab_laws.proofs.RanAgain.{list_again, run_again, text_again}
use Rattle.lab_laws.proofs.again.vectors_of_a_run_done_again_are_the_same_text.Goals as goal

pub returns-clause-told : goal.returns-clause-told
returns-clause-told c = run_again

pub returns-clause-called : goal.returns-clause-called
returns-clause-called c = list_again

pub returns-clause-read : goal.returns-clause-read
returns-clause-read c = text_again
