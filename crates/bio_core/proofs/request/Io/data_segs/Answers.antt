use Rattle.std.proofs.Common.{arith}
use Rattle.page_pool.specs.Places.{total}
use Rattle.bio_core.proofs.Sizes.{blocks_fit}
use Rattle.bio_core.proofs.request.Io.data_segs.Goals as goal

pub overflow_mul-k : goal.overflow_mul-k
overflow_mul-k c =
    let h = blocks_fit c.args.k c.args.n c.args.self.now.count (total c.args.self.now.body) c.block_size-size.result c.requires.within c.block_size-size.ensures in
    omega (arith, c.as_slice-segs.ensures.bound)

pub overflow_mul-n : goal.overflow_mul-n
overflow_mul-n c =
    let h = blocks_fit c.args.k c.args.n c.args.self.now.count (total c.args.self.now.body) c.block_size-size.result c.requires.within c.block_size-size.ensures in
    omega (arith, c.as_slice-segs.ensures.bound)

pub segs_in-requires : goal.segs_in-requires
segs_in-requires c = blocks_fit c.args.k c.args.n c.args.self.now.count (total c.args.self.now.body) c.block_size-size.result c.requires.within c.block_size-size.ensures
