use Rattle.std.proofs.Common.{arith}
use Rattle.stack_core.proofs.stack.map_piece.Goals as goal

pub map_out-requires-clause-payload : goal.map_out-requires-clause-payload
map_out-requires-clause-payload c = (c.requires.whole.tuples c.in-Write-Some.pi c.in-Write-Some.is-1).payload

pub map_out-requires-clause-range : goal.map_out-requires-clause-range
map_out-requires-clause-range c = let n = (c.requires.whole.tuples c.in-Write-Some.pi c.in-Write-Some.is-1).count in let w = c.requires.within in omega arith

pub map_out-requires-clause-fits : goal.map_out-requires-clause-fits
map_out-requires-clause-fits c = (c.requires.whole.tuples c.in-Write-Some.pi c.in-Write-Some.is-1).numbers

pub map_out-requires-clause-lie : goal.map_out-requires-clause-lie
map_out-requires-clause-lie c = (c.requires.whole.tuples c.in-Write-Some.pi c.in-Write-Some.is-1).lie
