use Rattle.std.proofs.Common.{sym, ◌∙◌}
use Rattle.volume_table.proofs.Chosen.{IsChosen, chosen}
use Rattle.volume_table.proofs.table.VolumeTable.place.Goals as goal

entry : (c : goal.After-entry_of) → IsChosen c.args.self.now c.args.v c.entry_of.result.now
entry c = chosen c.args.self.now c.args.v c.entry_of.result.now c.entry_of.ensures.table c.requires c.entry_of.ensures.found

pub place-requires-clause-ranges : goal.place-requires-clause-ranges
place-requires-clause-ranges c = (entry c).ranges

pub place-requires-clause-holds : goal.place-requires-clause-holds
place-requires-clause-holds c = (entry c).holds

pub place-requires-clause-fits : goal.place-requires-clause-fits
place-requires-clause-fits c = (entry c).fits

pub returns-clause-alone : goal.returns-clause-alone
returns-clause-alone c w lt same =
    let t = c.entry_of.ensures.table in
    let here = chosen c.args.self.now c.args.v c.entry_of.result.now t c.requires c.entry_of.ensures.found in
    t.made.alone w c.args.v lt c.requires (same ∙ c.place.ensures ∙ sym here.place)
