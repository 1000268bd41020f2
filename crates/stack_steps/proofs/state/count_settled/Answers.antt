use Rattle.std.proofs.Common.{arith}
use Rattle.bio_core.specs.declared.fate.Fate.TheVariants.{Good}
use Rattle.stack_steps.proofs.Settle.{settled-more}
use Rattle.stack_steps.proofs.state.count_settled.Goals as goal

pub loop-k-preserved : goal.loop-k-preserved
loop-k-preserved c =
    let m = settled-more c.loop-k.k c.args.from c.args.fates.now Good (omega arith) in
    record { count = omega (arith, m, c.one_if_settled-count.ensures.one); few = omega (arith, c.one_if_settled-count.ensures.few) }
