use Rattle.std.proofs.Common.{◌≡◌, length, drop}
use Rattle.mirror_volume.specs.LegRuns.{AreBelow, noted}
use Rattle.mirror_volume.proofs.replies.note.Given as goal

abbrev pub invariant-loop-bad : goal.invariant-loop-bad
invariant-loop-bad l = (noted (drop l.bad-index l.blocks) l.found ≡ noted l.blocks l.initial.found) × AreBelow (length l.found) (drop l.bad-index l.blocks)
