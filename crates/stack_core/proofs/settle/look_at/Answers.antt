use Rattle.stack_walk_laws.proofs.Wholes.{tuples_stay, whole_stays}
use Rattle.stack_core.proofs.settle.look_at.Goals as goal

pub verified-requires-clause-whole : goal.verified-requires-clause-whole
verified-requires-clause-whole c = whole_stays c.args.pool.now c.map_back.new.pool c.args.io.now c.map_back.ensures.mapped.wrote.others.pages c.requires.whole

pub verified-requires-clause-tuples : goal.verified-requires-clause-tuples
verified-requires-clause-tuples c = tuples_stay c.args.pool.now c.map_back.new.pool c.args.io.now c.args.pi.now c.map_back.ensures.mapped.wrote.others.pages c.requires.tuples
