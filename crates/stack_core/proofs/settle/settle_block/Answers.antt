use Rattle.std.proofs.Common.{arith}
use Rattle.stack_core.proofs.settle.settle_block.Goals as goal

pub map_back-requires-clause-payload : goal.map_back-requires-clause-payload
map_back-requires-clause-payload c = (c.requires.whole.tuples c.in-Some.pi c.in-Some.is).payload

pub map_back-requires-clause-range : goal.map_back-requires-clause-range
map_back-requires-clause-range c = let n = (c.requires.whole.tuples c.in-Some.pi c.in-Some.is).count in omega arith

pub map_back-requires-clause-fits : goal.map_back-requires-clause-fits
map_back-requires-clause-fits c = (c.requires.whole.tuples c.in-Some.pi c.in-Some.is).numbers

pub map_back-requires-clause-lie : goal.map_back-requires-clause-lie
map_back-requires-clause-lie c = (c.requires.whole.tuples c.in-Some.pi c.in-Some.is).lie
