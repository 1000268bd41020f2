use Rattle.std.proofs.Common.{arith}
use Rattle.bio_core.proofs.Parts.{part-is}
use Rattle.bio_core.proofs.bio.Bio.part.Goals as goal

pub returns-clause-blocks : goal.returns-clause-blocks
returns-clause-blocks c =
    let b = c.args.self.now in
    part-is c.args.at c.args.n b.count b.op b.k b.dev b.lba _ _ b.dir c.requires.within (omega arith) (omega arith)
