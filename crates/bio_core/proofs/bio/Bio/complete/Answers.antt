use Rattle.bio_core.specs.Bios.{blocks_of}
use Rattle.bio_core.proofs.Parts.{rest-blocks}
use Rattle.bio_core.proofs.bio.Bio.complete.Goals as goal

pub returns-clause-blocks : goal.returns-clause-blocks
returns-clause-blocks c =
    let b = c.args.self.now in
    rest-blocks c.args.n b.count b.op b.k b.dev b.lba b.dir (blocks_of c.part.result) c.part.ensures.blocks
