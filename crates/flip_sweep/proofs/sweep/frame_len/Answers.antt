use Rattle.std.proofs.Common.{arith}
use Rattle.flip_sweep.proofs.Sounding.{block_few}
use Rattle.flip_sweep.proofs.sweep.frame_len.Goals as goal

pub overflow_add-result : goal.overflow_add-result
overflow_add-result c = let few = block_few c.args.script.now c.requires in omega arith

pub returns-clause-few : goal.returns-clause-few
returns-clause-few c = let few = block_few c.args.script.now c.requires in omega arith
