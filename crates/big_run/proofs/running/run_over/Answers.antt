use Rattle.std.proofs.Common.{arith}
use Rattle.std.specs.Prelude.{codes}
use Rattle.big_run.proofs.Records.{devices_recorded, ran_big, rest_of}
use Rattle.big_run.proofs.running.run_over.Goals as goal

pub overflow_sub-result : goal.overflow_sub-result
overflow_sub-result c = rw (c.devices.ensures, c.records.ensures) (devices_recorded c.in-Ok.run' c.args.script (codes "big") _ _ c.in-Ok.ensures.verdict)

pub returns : goal.returns
returns c =
    let few = devices_recorded c.in-Ok.run' c.args.script (codes "big") _ _ c.in-Ok.ensures.verdict in
    ran_big c.args.n c.args.seed _ _ _ c.in-Ok.run' c.args.script c.requires.script c.requires.image c.requires.log (omega arith, omega arith) c.in-Ok.ensures.verdict
    (rw c.as_slice.ensures at c.counts_of-counts.ensures) (rw c.replies.ensures at c.bad_blocks.ensures) c.has_bad.ensures (rw (c.records.ensures, c.devices.ensures) (rest_of _ _ few)) c.in_ok-sum.ensures
