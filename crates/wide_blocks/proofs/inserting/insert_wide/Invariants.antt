use Rattle.wide_blocks.proofs.Moves.{Inserts}
use Rattle.wide_blocks.proofs.inserting.insert_wide.Given as goal

abbrev pub invariant-loop-i : goal.invariant-loop-i
invariant-loop-i l = Inserts l.layout l.tags l.body l.i l.initial.blocks l.blocks
