use Rattle.ref_remap.proofs.Rewrites.{Rewrites}
use Rattle.ref_remap.proofs.rewrite.Given as goal

abbrev pub invariant-loop-i : goal.invariant-loop-i
invariant-loop-i l = Rewrites l.initial.pool l.pool l.pi.tuples l.ty l.k l.from l.to l.i l.reader l.writer
