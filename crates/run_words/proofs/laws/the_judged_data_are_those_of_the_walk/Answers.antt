use Rattle.run_words.proofs.OfTheWalk.{of_the_walk}
use Rattle.run_words.proofs.laws.the_judged_data_are_those_of_the_walk.Goals as goal

pub returns : goal.returns
returns c = λ m asked log replies i k v once. of_the_walk m asked log replies i k v once
