use Rattle.pi_blocks.proofs.Makes.{Makes}
use Rattle.pi_blocks.proofs.making.generate.Given as goal

abbrev pub invariant-loop-i : goal.invariant-loop-i
invariant-loop-i l = Makes l.layout l.app l.first_ref l.i l.initial.blocks l.blocks
