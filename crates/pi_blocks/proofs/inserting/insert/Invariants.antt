use Rattle.std.proofs.Common.{◌≡◌, ◌*◌, drop}
use Rattle.pi_blocks.specs.Parts.{IsIn, all_parts, left_of}
use Rattle.pi_blocks.proofs.Inserts.{Inserts}
use Rattle.pi_blocks.proofs.inserting.insert.Given as goal

abbrev pub invariant-loop-i : goal.invariant-loop-i
invariant-loop-i l = record {
  made : Inserts l.layout l.app l.first_ref l.i (all_parts l.body) l.initial.blocks l.blocks;
  placed : IsIn l.body l.place;
  left : left_of l.body l.place ≡ drop (l.i * l.layout.data_size) (all_parts l.body);
}
