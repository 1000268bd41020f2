use Rattle.wide_blocks.proofs.Makes.{MakesApart}
use Rattle.wide_blocks.proofs.apart.generate_apart.Given as goal

abbrev pub invariant-loop-i : goal.invariant-loop-i
invariant-loop-i l = MakesApart l.layout l.tags l.i l.body l.initial.meta l.meta
