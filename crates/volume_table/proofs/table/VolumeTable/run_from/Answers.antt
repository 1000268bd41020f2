use Rattle.std.proofs.Common.{ℕ, ◌<◌, sym, ◌∙◌, subst}
use Rattle.volume_table.proofs.Chosen.{IsChosen, chosen}
use Rattle.volume_table.proofs.table.VolumeTable.run_from.Goals as goal

entry : (c : goal.After-entry_of) → IsChosen c.args.self.now c.args.v c.entry_of.result.now
entry c = chosen c.args.self.now c.args.v c.entry_of.result.now c.entry_of.ensures.table c.requires c.entry_of.ensures.found

pub run_from-requires-clause-ranges : goal.run_from-requires-clause-ranges
run_from-requires-clause-ranges c = (entry c).ranges

pub run_from-requires-clause-holds : goal.run_from-requires-clause-holds
run_from-requires-clause-holds c = (entry c).holds

pub returns-clause-runs : goal.returns-clause-runs
returns-clause-runs c k lt =
    let t = c.entry_of.ensures.table in
    let here = chosen c.args.self.now c.args.v c.entry_of.result.now t c.requires c.entry_of.ensures.found in
    t.made.runs c.args.v k c.requires (subst (λ (n : ℕ). k < n) (c.run_from.ensures ∙ sym here.run) lt)
