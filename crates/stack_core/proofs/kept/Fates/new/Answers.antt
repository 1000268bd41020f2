use Rattle.std.proofs.Common.{◌+◌, length, ap, arith}
use Rattle.std.proofs.lemmas.List.{get_or_read, length_push}
use Rattle.stack_walk_laws.specs.Sheets.{no_io}
use Rattle.stack_walk_laws.proofs.Counts.{begin-more, blocks-more, blocks-within, within-more}
use Rattle.stack_core.proofs.kept.Fates.new.Goals as goal

pub overflow_add-blocks : goal.overflow_add-blocks
overflow_add-blocks c =
    let ios = c.args.ios.now in
    let i = c.loop-io.io-index in
    let e = get_or_read ios i c.io-item.result c.loop-io-test.true c.io-item.is no_io in
    let n = ap (λ io. io.count) e in
    omega (arith, blocks-more ios i c.loop-io-test.true, blocks-within ios (i + 1), c.loop-io.invariant.sum)

pub loop-io-preserved : goal.loop-io-preserved
loop-io-preserved c =
    let ios = c.args.ios.now in
    let i = c.loop-io.io-index in
    let e = get_or_read ios i c.io-item.result c.loop-io-test.true c.io-item.is no_io in
    let n = ap (λ io. io.count) e in
    record {
      sum = omega (arith, blocks-more ios i c.loop-io-test.true, c.loop-io.invariant.sum);
      count = omega (arith, length_push c.loop-io.starts.items c.loop-io.blocks, ap length c.push_reserved.ensures.items);
      room = omega arith;
      begin = rw (c.push_reserved.ensures.items) (begin-more ios c.loop-io.starts.items c.loop-io.blocks i c.loop-io.invariant.count c.loop-io.invariant.sum c.loop-io.invariant.begin);
      within = rw (c.push_reserved.ensures.items) (within-more ios c.loop-io.starts.items c.loop-io.blocks i c.io-item.result c.loop-io.invariant.count e c.loop-io.invariant.within);
    }
