use Rattle.std.proofs.Common.{◌≡◌, ap, arith}
use Rattle.rig_api.specs.Telling.{Standing}
use Rattle.bench_calls.proofs.rounds.carry_times.Goals as goal

pub carry-requires-clause-round : goal.carry-requires-clause-round
carry-requires-clause-round c = record {
  protect = c.requires;
  bytes = c.loop.invariant.group.0;
  group = c.loop.invariant.group.1;
  scratch = c.loop.invariant.scratch;
  fates = c.loop.invariant.capacity;
}

pub loop-preserved : goal.loop-preserved
loop-preserved c =
    let e : c.carry.new.rig.devices ≡ c.loop.rig.devices = ap (λ (s : Standing). s.devices) c.carry.ensures.standing in
    record {
      group = (c.carry.ensures.round.bytes, c.carry.ensures.round.group);
      scratch = c.carry.ensures.round.scratch;
      capacity = c.carry.ensures.round.fates;
      device = (let d = c.loop.invariant.device in omega (arith, e));
    }
