use Rattle.wide_blocks.specs.Blocks.{AreFineFrom, in_line}
use Rattle.wide_blocks.proofs.checking.verify_wide.Given as goal

abbrev pub invariant-loop-i : goal.invariant-loop-i
invariant-loop-i l = AreFineFrom l.layout l.want (in_line l.layout l.blocks) l.start l.i
