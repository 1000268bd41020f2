use Rattle.std.proofs.Common.{◌-◌, ◌∙◌, arith}
use Rattle.bio_core.specs.Bios.{blocks_of}
use Rattle.bio_core.proofs.Parts.{halves, length-blocks}
use Rattle.bio_core.proofs.bio.Bio.split.Goals as goal

pub returns-clause-whole : goal.returns-clause-whole
returns-clause-whole c =
    let b = c.args.self.now in
    halves c.args.n (b.count - c.args.n) (blocks_of b) _ _ (length-blocks b.count b.op b.k b.dev b.lba b.dir ∙ omega arith) c.part.ensures.blocks c.part-2.ensures.blocks
