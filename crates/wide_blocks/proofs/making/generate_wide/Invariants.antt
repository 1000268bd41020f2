use Rattle.wide_blocks.proofs.Makes.{Makes}
use Rattle.wide_blocks.proofs.making.generate_wide.Given as goal

abbrev pub invariant-loop-i : goal.invariant-loop-i
invariant-loop-i l = Makes l.layout l.tags l.i l.initial.blocks l.blocks
