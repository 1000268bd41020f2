use Rattle.dix_adapter.proofs.Ahead.{lie-in-pages}
use Rattle.dix_adapter.proofs.walks.Walks.of.Goals as goal

pub walk-requires : goal.walk-requires
walk-requires c = lie-in-pages c.requires.lies.0 c.args.io.now.body c.requires.lies.1.lies

pub tuples_from-requires : goal.tuples_from-requires
tuples_from-requires c = (c.requires.lies.0, (c.args.io.now.count, (c.requires.lies.1.tuples, c.requires.within)))
