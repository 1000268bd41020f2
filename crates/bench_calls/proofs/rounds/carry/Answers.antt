use Rattle.std.proofs.Common.{◌≡◌, ap, sym, arith}
use Rattle.rig_api.specs.Telling.{Standing}
use Rattle.bench_calls.proofs.Staying.{group-stays}
use Rattle.bench_calls.proofs.rounds.carry.Goals as goal

pub carry-requires : goal.carry-requires
carry-requires c = record {
  can = record {
    protect = c.requires.round.protect;
    bytes = c.requires.round.bytes;
    group = c.requires.round.group;
    scratch = c.requires.round.scratch;
    fates = c.requires.round.fates;
    device = (let e : c.forget.new.self.devices ≡ c.args.rig.now.devices = ap (λ (s : Standing). s.devices) c.forget.ensures.standing in let d = c.requires.device in omega (arith, e));
    spare = rw (sym c.requires.count) c.forget.ensures.room;
  };
}

pub returns-clause-round : goal.returns-clause-round
returns-clause-round c = record {
  protect = c.requires.round.protect;
  bytes = c.requires.round.bytes;
  group = group-stays c.args.adapter.now c.args.pool.now c.carry.new.pool c.requires.round.bytes c.args.ios.now c.args.req.now c.carry.ensures.pages c.requires.round.group;
  scratch = c.carry.ensures.scratch.holds;
  fates = rw c.carry.ensures.capacity c.requires.round.fates;
}
