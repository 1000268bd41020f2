use Rattle.std.proofs.Common.{◌≡◌, ◌*◌, ◌≤◌, drop}
use Rattle.pi_blocks.specs.Blocks.{AreFineFrom, apart}
use Rattle.pi_blocks.specs.Parts.{IsIn, all_parts, left_of}
use Rattle.pi_blocks.proofs.apart.dix_verify.Given as goal

abbrev pub invariant-loop-i : goal.invariant-loop-i
invariant-loop-i l = record {
  fine : AreFineFrom l.layout l.want (apart l.layout (all_parts l.body) l.meta) l.start l.i;
  placed : IsIn l.body l.place;
  left : l.i ≤ l.count → left_of l.body l.place ≡ drop (l.i * l.layout.data_size) (all_parts l.body);
}
