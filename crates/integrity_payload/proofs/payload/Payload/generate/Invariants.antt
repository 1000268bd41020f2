use Rattle.integrity_payload.proofs.Fills.{Fills}
use Rattle.integrity_payload.proofs.payload.Payload.generate.Given as goal

abbrev pub invariant-loop-k : goal.invariant-loop-k
invariant-loop-k l = Fills l.initial.pool l.pool l.body l.self.tuples l.size l.kind l.ty l.self.seed l.self.app l.k l.blocks l.tuples
