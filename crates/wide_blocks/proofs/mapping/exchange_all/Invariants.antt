use Rattle.wide_blocks.proofs.Makes.{Maps}
use Rattle.wide_blocks.proofs.mapping.exchange_all.Given as goal

abbrev pub invariant-loop-i : goal.invariant-loop-i
invariant-loop-i l = Maps l.layout l.from l.to l.i l.initial.blocks l.blocks
