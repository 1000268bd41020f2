use Rattle.std.proofs.Common.{arith, rules}
use Rattle.dix_adapter.proofs.Landing.{group-bytes}
use Rattle.dix_adapter.proofs.Rooms.{holds-fewer}
use Rattle.adapter_rows.proofs.carrying.carried.Goals as goal

pub carry-requires : goal.carry-requires
carry-requires g c = record {
  can = record {
    protect = search rules;
    bytes = c.in-Some.ensures.group.0;
    group = c.in-Some.ensures.group.1;
    scratch = holds-fewer 4096 _ c.in-Some.count _ c.in_ok-scratch.scratch
        (let s = c.in-Some.ensures.group.1.small.1 in let e = group-bytes _ _ c.in-Some.ensures.group.0 _ _ c.in-Some.ensures.group.1 in omega (arith, e, s))
        (let n = c.in-Some.ensures.count in omega (arith, n)) c.in_ok-scratch.ensures;
    fates = omega (arith, c.in-Some.ensures.count, c.in_ok-fates.ensures.capacity);
    device = search rules;
    spare = search rules;
  };
}
