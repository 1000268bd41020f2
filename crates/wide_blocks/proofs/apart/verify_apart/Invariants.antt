use Rattle.wide_blocks.specs.Blocks.{AreFineFrom, apart}
use Rattle.wide_blocks.proofs.apart.verify_apart.Given as goal

abbrev pub invariant-loop-i : goal.invariant-loop-i
invariant-loop-i l = AreFineFrom l.layout l.want (apart l.layout l.body l.meta) l.start l.i
