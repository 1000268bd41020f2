use Rattle.pi_guard.proofs.Runs.{ip_whole}
use Rattle.pi_guard.proofs.ip_sum.Goals as goal

pub returns : goal.returns
returns c = ip_whole c.sum_after.result c.args.bytes.now c.sum_after.ensures
