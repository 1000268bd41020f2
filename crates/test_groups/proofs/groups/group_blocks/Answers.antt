use Rattle.std.proofs.Common.{refl, arith}
use Rattle.dix_adapter.specs.Groups.{IsBio, first_of, no_bio}
use Rattle.dix_adapter.proofs.Blocks.{size-more}
use Rattle.test_groups.proofs.Lists.{all-more, chain-more}
use Rattle.test_groups.proofs.groups.group_blocks.Goals as goal

pub loop-bio-preserved : goal.loop-bio-preserved
loop-bio-preserved c =
    let m = size-more c.args.req.now c.loop-bio.bio-index no_bio (omega arith) in
    record {
      bios = all-more (IsBio c.args.adapter.now c.args.pool.now c.size_of_first-bytes.result c.args.ios.now (first_of c.args.req.now).dev (first_of c.args.req.now).dir) c.args.req.now c.loop-bio.bio-index (omega arith) c.loop-bio.invariant.bios (c.if-not-is_bio.ensures refl);
      chain = chain-more (first_of c.args.req.now).lba c.args.req.now c.loop-bio.bio-index (omega arith) c.loop-bio.invariant.chain (omega (arith, c.if-bio-first.false, c.loop-bio.invariant.count));
      count = omega (arith, m, c.loop-bio.invariant.count);
    }
