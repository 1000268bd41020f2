use Rattle.std.proofs.Common.{arith}
use Rattle.std.proofs.lemmas.List.{length-drop}
use Rattle.dix_base.proofs.Cut.{cut-joined, take-rest}
use Rattle.dix_base.proofs.calm_source.CalmSourceSource.take.Goals as goal

pub returns-clause-taken : goal.returns-clause-taken
returns-clause-taken c =
    let most = simp (c.deref.ensures.value, take-rest, length-drop) at c.min-n.ensures in
    rw (← c.self.view_is, c.copy_from_slice.ensures.after, c.deref.ensures.value, take-rest)
    (cut-joined c.min-n.result c.self.inside.at c.self.inside.held.items c.args.buf.now (omega arith) (omega arith))
