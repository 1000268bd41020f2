use Rattle.std.proofs.Common.{arith}
use Rattle.script_text.proofs.Walks.{next_block, next_walk}
use Rattle.script_text.proofs.segments.are_few_each.Goals as goal

pub loop-block-preserved : goal.loop-block-preserved
loop-block-preserved c = record {
  few = next_block c.args.size c.loop-block._block c.args.n c.count_parts.result c.loop-block.walk c.args.list.now _ c.loop-block-test.true c.loop-block.invariant.walk c.loop-block.invariant.few c.count_parts.ensures.count (omega arith);
  walk = next_walk c.args.size c.loop-block._block c.loop-block.walk c.count_parts.new.walk c.args.list.now c.loop-block.invariant.walk c.count_parts.ensures.ahead;
}
