use Rattle.std.proofs.Common.{arith}
use Rattle.merge_queue.proofs.Held.{new-held}
use Rattle.merge_queue.proofs.group_index.GroupIndex.new.Goals as goal

pub invariant_of-result : goal.invariant_of-result
invariant_of-result c = (
  rw (c.in_ok-with_capacity.ensures.items, c.in_ok-with_capacity-2.ensures.items)
      (new-held c.args.bios c.in_ok-vec.field-0.items c.in_ok-vec-2.field-0.items c.in_ok-one_chain.field-0.items (omega (arith, c.in_ok-vec.ensures.len)) (omega (arith, c.in_ok-vec-2.ensures.len)) c.in_ok-one_chain.ensures (omega arith)),
  omega (arith, c.in_ok-with_capacity.ensures.capacity),
  omega (arith, c.in_ok-with_capacity-2.ensures.capacity),
)
