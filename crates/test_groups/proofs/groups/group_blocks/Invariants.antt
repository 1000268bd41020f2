use Rattle.std.proofs.Common.{◌≡◌, take}
use Rattle.std.specs.List.{All}
use Rattle.dix_adapter.specs.Groups.{Chain, IsBio, size}
use Rattle.test_groups.proofs.groups.group_blocks.Given as goal

abbrev pub invariant-loop-bio : goal.invariant-loop-bio
invariant-loop-bio l = record {
  bios : All (IsBio l.adapter l.pool l.bytes l.ios l.first.dev l.first.dir) (take l.bio-index l.req);
  chain : Chain l.first.lba (take l.bio-index l.req);
  count : l.count ≡ size (take l.bio-index l.req);
}
