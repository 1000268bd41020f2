use Rattle.std.proofs.Common.{◌≡◌, ◌≤◌, ◌<◌, ℕ}
use Rattle.std.specs.Vec.{vec_capacity}
use Rattle.dix_adapter.specs.Groups.{IsCarriedGroup, block_len, first_of, size}
use Rattle.dix_adapter.specs.Room.{HoldsBlocks}
use Rattle.bench_calls.proofs.rounds.carry_times.Given as goal

abbrev pub invariant-loop : goal.invariant-loop
invariant-loop l = record {
  group : (bytes : ℕ) × IsCarriedGroup l.adapter l.pool bytes l.ios l.req;
  scratch : HoldsBlocks (block_len l.ios l.req) (size l.req) l.scratch;
  capacity : size l.req ≤ vec_capacity l.fates;
  device : (first_of l.req).dev < l.rig.devices;
}
