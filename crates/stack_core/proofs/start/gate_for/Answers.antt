use Rattle.std.proofs.Common.{length, ap, arith}
use Rattle.stack_walk_laws.proofs.Gates.{length-prints}
use Rattle.stack_core.proofs.start.gate_for.Goals as goal

pub new-requires : goal.new-requires
new-requires c =
    let v = c.in_ok-footprints.field-0 in
    let n = length-prints c.args.ops.now c.args.shifted.now in
    let e = ap length c.in_ok-footprints.ensures in
    let f = c.requires.few in
    omega (arith, v.ok.0)
