use Rattle.std.proofs.Common.{◌≡◌, length, map, take}
use Rattle.std.specs.Vec.{vec_capacity}
use Rattle.dix_adapter.specs.Groups.{blocks_in, label_of, size}
use Rattle.dix_adapter.proofs.outward.fill_labels.Given as goal

abbrev pub invariant-loop-bio : goal.invariant-loop-bio
invariant-loop-bio l = record {
  items : l.labels.items ≡ map label_of (blocks_in (take l.bio-index l.req));
  number : length l.labels.items ≡ size (take l.bio-index l.req);
  capacity : vec_capacity l.labels ≡ vec_capacity l.initial.labels;
}
