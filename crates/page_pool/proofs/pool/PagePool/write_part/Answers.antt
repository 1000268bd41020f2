use Rattle.std.proofs.Common.{◌≡◌}
use Rattle.page_pool.proofs.Paging.{wrote-with_part}
use Rattle.page_pool.proofs.pool.PagePool.write_part.Goals as goal

pub returns-in-Ok : goal.returns-in-Ok
returns-in-Ok c =
    let same : c.in-Ok.eight ≡ c.args.bytes.now = c.in-Ok.ensures.1.same in
    rw (c.copy_from_slice.ensures.after, same) (wrote-with_part c.args.self.now c.args.s c.args.bytes.now c.requires.lies c.part_mut.ensures.whole c.requires.long)

pub returns-in-Err : goal.returns-in-Err
returns-in-Err c = rw c.copy_from_slice-in-Err.ensures.after (wrote-with_part c.args.self.now c.args.s c.args.bytes.now c.requires.lies c.part_mut-in-Err.ensures.whole c.requires.long)
