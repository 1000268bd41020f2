use Rattle.std.proofs.Common.{◌≡◌, ◌*◌, ◌≤◌, drop}
use Rattle.pi_blocks.specs.Blocks.{AreFineFrom, in_line}
use Rattle.pi_blocks.specs.Layouts.{stride_of}
use Rattle.pi_blocks.specs.Parts.{IsIn, all_parts, left_of}
use Rattle.pi_blocks.proofs.spread.verify_spread.Given as goal

abbrev pub invariant-loop-i : goal.invariant-loop-i
invariant-loop-i l = record {
  fine : AreFineFrom l.layout l.want (in_line l.layout (all_parts l.blocks)) l.start l.i;
  placed : IsIn l.blocks l.place;
  left : l.i ≤ l.count → left_of l.blocks l.place ≡ drop (l.i * stride_of l.layout) (all_parts l.blocks);
}
