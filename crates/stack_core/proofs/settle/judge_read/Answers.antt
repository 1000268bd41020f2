use Rattle.stack_core.proofs.settle.judge_read.Goals as goal

pub look_at-requires-clause-tuples : goal.look_at-requires-clause-tuples
look_at-requires-clause-tuples c = c.requires.whole.tuples c.in-Good-Some.pi c.in-Good-Some.is-1
