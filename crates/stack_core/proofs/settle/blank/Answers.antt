use Rattle.stack_walk_laws.proofs.Wholes.{whole_stays}
use Rattle.stack_core.proofs.settle.blank.Goals as goal

pub blank_tuple-requires-clause-whole : goal.blank_tuple-requires-clause-whole
blank_tuple-requires-clause-whole c = whole_stays c.args.pool.now c.blank_data.new.pool c.args.io.now c.blank_data.ensures.pages c.requires.whole
