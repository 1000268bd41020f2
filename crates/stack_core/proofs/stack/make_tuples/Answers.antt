use Rattle.std.proofs.Common.{arith}
use Rattle.stack_core.proofs.stack.make_tuples.Goals as goal

pub generate-requires-clause-payload : goal.generate-requires-clause-payload
generate-requires-clause-payload c = (c.requires.whole.tuples c.in-Write-Some.pi c.in-Write-Some.is-1).payload

pub generate-requires-clause-some : goal.generate-requires-clause-some
generate-requires-clause-some c = let n = (c.requires.whole.tuples c.in-Write-Some.pi c.in-Write-Some.is-1).count in let s = c.requires.some in omega arith

pub generate-requires-clause-fits : goal.generate-requires-clause-fits
generate-requires-clause-fits c = let n = (c.requires.whole.tuples c.in-Write-Some.pi c.in-Write-Some.is-1).numbers in omega arith

pub generate-requires-clause-lie : goal.generate-requires-clause-lie
generate-requires-clause-lie c = (c.requires.whole.tuples c.in-Write-Some.pi c.in-Write-Some.is-1).lie
