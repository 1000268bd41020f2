use Rattle.std.proofs.Common.{◌≡◌, map}
use Rattle.merge_queue.specs.Groups.{numbers}
use Rattle.stack_walk_laws.specs.Requests.{tuple_page}
use Rattle.stack_core.proofs.requests.private_tuples.Given as goal

abbrev pub invariant-loop-i : goal.invariant-loop-i
invariant-loop-i l = l.segs.items ≡ map (tuple_page l.page l.count) (numbers 0 l.i)
