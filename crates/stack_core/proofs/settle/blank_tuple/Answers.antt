use Rattle.stack_core.proofs.settle.blank_tuple.Goals as goal

pub zero_tuple-requires-clause-lie : goal.zero_tuple-requires-clause-lie
zero_tuple-requires-clause-lie c = (c.requires.whole.tuples c.in-Some.pi c.in-Some.is).lie
