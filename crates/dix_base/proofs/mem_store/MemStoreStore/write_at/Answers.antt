use Rattle.std.proofs.Common.{take, arith}
use Rattle.std.proofs.lemmas.List.{length-take}
use Rattle.dix_base.proofs.Over.{over-apart}
use Rattle.dix_base.proofs.mem_store.MemStoreStore.write_at.Goals as goal

pub returns-clause-apart : goal.returns-clause-apart
returns-clause-apart c =
    rw (c.in_ok-write_at.ensures.written, ← c.self.view_is)
    (over-apart c.args.at _ (take c.part_of-n.result c.args.piece.now) c.self.inside.calm.bytes (simp length-take (omega arith)) (rw (← c.self.view_is) at c.requires))
