use Rattle.std.proofs.Common.{arith}
use Rattle.dix_base.proofs.Over.{over-apart}
use Rattle.dix_base.proofs.calm_store.CalmStoreStore.write_at.Goals as goal

pub returns-clause-apart : goal.returns-clause-apart
returns-clause-apart c = rw (c.overwrite.ensures, ← c.self.view_is) (over-apart c.args.at _ c.args.piece.now c.self.inside.held.bytes.items (omega arith) (rw (← c.self.view_is) at c.requires))
