use Rattle.std.proofs.Common.{Some}
use Rattle.dix_adapter.specs.Walking.{WalksTuples}
use Rattle.dix_adapter.proofs.Ahead.{lie-in-pages}
use Rattle.dix_adapter.proofs.walks.tuples_from.Goals as goal

pub walk_tuples-requires-clause-lie : goal.walk_tuples-requires-clause-lie
walk_tuples-requires-clause-lie c =
    let h : WalksTuples c.requires.0 c.requires.1.0 (Some c.in-Some.pi) = rw c.in-Some.is at c.requires.1.1.0 in
    lie-in-pages c.requires.0 c.in-Some.pi.tuples h.1.1
