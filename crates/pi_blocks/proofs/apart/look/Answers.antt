use Rattle.pi_blocks.specs.Parts.{left_of}
use Rattle.pi_blocks.proofs.Aparts.{looked_apart}
use Rattle.pi_blocks.proofs.apart.look.Goals as goal

pub returns-clause-found : goal.returns-clause-found
returns-clause-found c body e =
    looked_apart c.args.layout c.args.want body (left_of c.args.parts.now c.args.place.now) c.args.meta.now c.args.i c.guard_of_next-guard.result c.kind.result c.tuple_at.result c.compare.result e c.kind.ensures
    c.guard_of_next-guard.ensures.guard c.compare.ensures.found c.tuple_at.ensures
