use Rattle.std.proofs.Common.{◌≡◌, ◌+◌, ◌*◌, length}
use Rattle.std.specs.Vec.{vec_capacity}
use Rattle.block_path.specs.Routes.{wire_size}
use Rattle.dix_adapter.specs.Groups.{route_by}
use Rattle.dix_adapter.specs.OnTheWay.{CanGo, HasLandedFirst, KeepsBehind}
use Rattle.dix_adapter.specs.Walking.{IsBefore}
use Rattle.dix_adapter.proofs.adapter.Adapter.land_bio.Given as goal

abbrev pub invariant-loop : goal.invariant-loop
invariant-loop l = record {
  can : CanGo l.self l.pool l.io l.bio;
  before : IsBefore l.io (route_by l.self l.io l.bio l.counter) l.walks;
  landed : HasLandedFirst l.self l.io l.bio l.counter l.initial.frames l.initial.pool l.pool l.initial.fates.items l.fates.items;
  number : length l.fates.items ≡ length l.initial.fates.items + l.counter;
  capacity : vec_capacity l.fates ≡ vec_capacity l.initial.fates;
  place : l.at ≡ l.counter * wire_size (route_by l.self l.io l.bio 0);
  behind : KeepsBehind l.at l.initial.frames l.frames;
}
