use Rattle.script_text.proofs.Tracking.{kept_lengths}
use Rattle.script_text.proofs.draft.Draft.add_inner.Goals as goal

pub invariant_of-self-clause-lengths : goal.invariant_of-self-clause-lengths
invariant_of-self-clause-lengths c = kept_lengths c.add.result c.args.self.now.inner.items c.add.new.list.items c.args.inner c.add.ensures.added c.add.ensures.kept c.args.self.now.lengths c.requires.low c.requires.high
