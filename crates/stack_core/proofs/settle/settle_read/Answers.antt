use Rattle.stack_walk_laws.proofs.Wholes.{whole_stays}
use Rattle.stack_core.proofs.settle.settle_read.Goals as goal

pub blank_unless_good-requires-clause-whole : goal.blank_unless_good-requires-clause-whole
blank_unless_good-requires-clause-whole c = whole_stays c.args.pool.now c.judge_read-settled.new.pool c.args.io.now c.judge_read-settled.ensures.pages c.requires.whole
