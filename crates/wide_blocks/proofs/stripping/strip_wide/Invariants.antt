use Rattle.wide_blocks.specs.Blocks.{AreFineFrom, in_line}
use Rattle.wide_blocks.proofs.Moves.{Strips}
use Rattle.wide_blocks.proofs.stripping.strip_wide.Given as goal

abbrev pub invariant-loop-i : goal.invariant-loop-i
invariant-loop-i l = record {
  fine : AreFineFrom l.layout l.want (in_line l.layout l.blocks) 0 l.i;
  copied : Strips l.layout l.blocks l.i l.initial.body l.body;
}
