use Rattle.std.proofs.Common.{◌≡◌, ◌+◌, ◌++◌, length, map}
use Rattle.std.specs.Vec.{vec_capacity}
use Rattle.bio_core.specs.Bios.{blocks_from}
use Rattle.dix_adapter.specs.Groups.{label_of}
use Rattle.dix_adapter.proofs.outward.add_labels.Given as goal

abbrev pub invariant-loop-i : goal.invariant-loop-i
invariant-loop-i l = record {
  items : l.labels.items ≡ l.initial.labels.items ++ map label_of (blocks_from l.bio.op l.bio.k l.bio.dev l.bio.lba l.bio.dir l.i);
  number : length l.labels.items ≡ length l.initial.labels.items + l.i;
  capacity : vec_capacity l.labels ≡ vec_capacity l.initial.labels;
}
