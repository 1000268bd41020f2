use Rattle.std.proofs.Common.{◌≡◌, ◌+◌, ◌*◌, ◌++◌, length, map}
use Rattle.std.specs.Vec.{vec_capacity}
use Rattle.page_pool.specs.Cells.{flat}
use Rattle.block_path.specs.Routes.{wire_size}
use Rattle.dix_adapter.specs.Groups.{route_by}
use Rattle.dix_adapter.specs.Carried.{Gathers, sends_first, unsent}
use Rattle.dix_adapter.specs.Walking.{IsBefore}
use Rattle.dix_adapter.proofs.adapter.Adapter.gather_bio.Given as goal

abbrev pub invariant-loop : goal.invariant-loop
invariant-loop l = record {
  before : IsBefore l.io (route_by l.self l.io l.bio l.counter) l.walks;
  fates : l.fates.items ≡ l.initial.fates.items ++ map unsent (sends_first l.self l.io l.bio (flat l.pool) l.counter);
  number : length l.fates.items ≡ length l.initial.fates.items + l.counter;
  capacity : vec_capacity l.fates ≡ vec_capacity l.initial.fates;
  gathers : Gathers l.self l.io l.bio (flat l.pool) l.counter l.from l.initial.frames l.frames;
  place : l.at ≡ l.from + l.counter * wire_size (route_by l.self l.io l.bio 0);
  long : length l.frames ≡ length l.initial.frames;
}
