use Rattle.pi_blocks.proofs.Maps.{Maps}
use Rattle.pi_blocks.proofs.mapping.exchange_all.Given as goal

abbrev pub invariant-loop-i : goal.invariant-loop-i
invariant-loop-i l = Maps l.fn.layout l.from l.to l.i l.initial.blocks l.blocks
