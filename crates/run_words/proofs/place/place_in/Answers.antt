use Rattle.run_words.proofs.Places.{chosen_at}
use Rattle.run_words.proofs.place.place_in.Goals as goal

pub entry_place-requires-clause-ranges : goal.entry_place-requires-clause-ranges
entry_place-requires-clause-ranges c = (chosen_at c.requires.table.0 c.args.entries.now c.args.v c.in-Some.entry.now c.requires.table.1 c.requires.table.2 c.requires.inside c.in-Some.ensures.some).ranges

pub entry_place-requires-clause-holds : goal.entry_place-requires-clause-holds
entry_place-requires-clause-holds c = (chosen_at c.requires.table.0 c.args.entries.now c.args.v c.in-Some.entry.now c.requires.table.1 c.requires.table.2 c.requires.inside c.in-Some.ensures.some).holds

pub entry_place-requires-clause-fits : goal.entry_place-requires-clause-fits
entry_place-requires-clause-fits c = (chosen_at c.requires.table.0 c.args.entries.now c.args.v c.in-Some.entry.now c.requires.table.1 c.requires.table.2 c.requires.inside c.in-Some.ensures.some).fits
