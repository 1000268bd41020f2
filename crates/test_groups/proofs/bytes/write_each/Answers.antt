use Rattle.std.proofs.Common.{◌≤◌, get_or, length, arith, ◌∙◌}
use Rattle.page_pool.proofs.Placing.{all_lie-same}
use Rattle.test_groups.proofs.SegLists.{lie-at, no_seg, total-drop}
use Rattle.test_groups.proofs.Writes.{wrote-more}
use Rattle.test_groups.proofs.bytes.write_each.Goals as goal

pub write_part-requires-clause-lies : goal.write_part-requires-clause-lies
write_part-requires-clause-lies c =
    lie-at c.loop-s.pool c.args.segs.now c.loop-s.s-index no_seg c.loop-s-test.true
    (all_lie-same c.args.pool.now c.loop-s.pool c.args.segs.now c.loop-s.invariant.pages c.requires.lie)

pub loop-s-preserved : goal.loop-s-preserved
loop-s-preserved c =
    let left = total-drop c.args.segs.now c.loop-s.s-index no_seg c.loop-s-test.true in
    let enough : (get_or c.args.segs.now c.loop-s.s-index no_seg).len ≤ length c.loop-s.rest.now = omega (arith, left, c.loop-s.invariant.enough) in
    let lies = lie-at c.loop-s.pool c.args.segs.now c.loop-s.s-index no_seg c.loop-s-test.true
    (all_lie-same c.args.pool.now c.loop-s.pool c.args.segs.now c.loop-s.invariant.pages c.requires.lie) in
    record {
      pages = c.write_part.ensures.others.pages ∙ c.loop-s.invariant.pages;
      enough = grind (arith, left, c.loop-s.invariant.enough, c.split_at.ensures.back, enough);
      wrote = wrote-more c.loop-s.pool c.write_part.new.self c.args.segs.now c.loop-s.s-index c.loop-s.rest.now c.split_at.result.0.now c.split_at.result.1.now
          c.loop-s-test.true c.pages-pages.ensures.whole lies enough c.split_at.ensures.front c.split_at.ensures.back c.write_part.ensures
          ∙ c.loop-s.invariant.wrote;
    }
