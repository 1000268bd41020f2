use Rattle.big_run.proofs.Records.{counted_all}
use Rattle.big_run.proofs.counting.bad_blocks.Goals as goal

pub returns : goal.returns
returns c = counted_all c.loop-reply.bad 18446744073709551615 c.loop-reply.rest.now c.args.replies.now c.in_default.ensures.cases c.loop-reply.invariant.counted c.loop-reply.invariant.bound
