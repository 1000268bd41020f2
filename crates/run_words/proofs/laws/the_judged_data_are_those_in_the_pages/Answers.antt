use Rattle.run_words.proofs.AtHost.{at_host}
use Rattle.run_words.proofs.laws.the_judged_data_are_those_in_the_pages.Goals as goal

pub returns : goal.returns
returns c = λ faults r frame long. at_host faults r frame long
