use Rattle.std.proofs.Common.{◌≡◌, ◌*◌, drop}
use Rattle.pi_blocks.specs.Layouts.{stride_of}
use Rattle.pi_blocks.specs.Parts.{IsInside, StaySame, all_parts_mut, bytes_of_mut, left_in}
use Rattle.pi_blocks.proofs.Maps.{Maps}
use Rattle.pi_blocks.proofs.over_parts.map_all.Given as goal

abbrev pub invariant-loop-i : goal.invariant-loop-i
invariant-loop-i l = record {
  mapped : Maps l.layout l.from l.to l.i (all_parts_mut l.initial.blocks) (all_parts_mut l.blocks);
  placed : IsInside bytes_of_mut l.blocks l.place;
  left : left_in bytes_of_mut l.blocks l.place ≡ drop (l.i * stride_of l.layout) (all_parts_mut l.initial.blocks);
  same : StaySame l.initial.blocks l.blocks;
}
