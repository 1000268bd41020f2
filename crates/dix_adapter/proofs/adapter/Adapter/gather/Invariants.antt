use Rattle.std.proofs.Common.{◌≡◌, ◌+◌, ◌*◌, ◌≤◌, length, take}
use Rattle.std.specs.Vec.{vec_capacity}
use Rattle.page_pool.specs.Cells.{flat}
use Rattle.dix_adapter.specs.Groups.{block_len, size}
use Rattle.dix_adapter.proofs.Grouping.{Gathered}
use Rattle.dix_adapter.proofs.adapter.Adapter.gather.Given as goal

abbrev pub invariant-loop-bio : goal.invariant-loop-bio
invariant-loop-bio l = record {
  gathered : Gathered l.self l.ios (flat l.pool) (take l.bio-index l.req) l.at l.frames l.fates.items;
  number : length l.fates.items ≡ size (take l.bio-index l.req);
  capacity : vec_capacity l.fates ≡ vec_capacity l.initial.fates;
  place : l.at ≤ size (take l.bio-index l.req) * (block_len l.ios l.req + 8);
  long : length l.frames ≡ length l.initial.frames;
}
