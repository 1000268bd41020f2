use Rattle.run_words.proofs.Entries.{of_its_entry}
use Rattle.run_words.proofs.laws.the_judged_frame_of_a_block_is_that_of_its_entry.Goals as goal

pub returns : goal.returns
returns c = λ m log i k once. of_its_entry m log i k once
