use Rattle.std.proofs.Common.{◌≡◌, ◌+◌, ◌-◌, ◌*◌, length, take, drop}
use Rattle.std.specs.Vec.{vec_capacity}
use Rattle.page_pool.specs.Cells.{flat}
use Rattle.page_pool.specs.Pages.{AreWhole}
use Rattle.dix_adapter.specs.Carried.{frame_len}
use Rattle.dix_adapter.specs.Groups.{size}
use Rattle.dix_adapter.proofs.Landing.{Landed}
use Rattle.dix_adapter.proofs.adapter.Adapter.land.Given as goal

abbrev pub invariant-loop-bio : goal.invariant-loop-bio
invariant-loop-bio l = record {
  pages : length l.pool ≡ length l.initial.pool;
  whole : AreWhole l.pool;
  landed : Landed l.self l.ios (take l.bio-index l.req) (frame_len l.self l.ios l.req) l.done l.initial.frames (flat l.initial.pool) l.fates.items (flat l.pool);
  left : l.left ≡ l.done - size (take l.bio-index l.req);
  number : length l.fates.items + l.left ≡ l.done;
  place : l.at ≡ (l.done - l.left) * frame_len l.self l.ios l.req;
  ahead : drop l.at l.frames ≡ drop l.at l.initial.frames;
  long : length l.frames ≡ length l.initial.frames;
  capacity : vec_capacity l.fates ≡ vec_capacity l.initial.fates;
}
