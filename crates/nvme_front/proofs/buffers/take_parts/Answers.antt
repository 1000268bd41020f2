use Rattle.std.proofs.Common.{◌≡◌, ◌+◌, ◌-◌, ◌++◌, length, take, drop, ap, arith, ◌∙◌}
use Rattle.nvme_front.proofs.Walks.{long-front, part-long, parts-more, room-more}
use Rattle.nvme_front.specs.Buffers.{parts}
use Rattle.nvme_front.proofs.buffers.take_parts.Goals as goal

pub loop-preserved : goal.loop-preserved
loop-preserved c =
    let width = c.args.width in
    let k = c.loop.counter in
    let n = c.args.count in
    let rest = c.loop.rest.now in
    let h = c.loop-test.true in
    let front = long-front width 0 k n rest h c.loop.invariant.rest in
    let piece : c.cut-in-loop-2.result.0.now ≡ take c.args.len (drop c.args.from (take width rest)) =
    c.cut-in-loop-2.ensures.front ∙ ap (take c.args.len) (c.cut-in-loop.ensures.back ∙ ap (drop c.args.from) c.cut.ensures.front) in
    let long : length c.cut-in-loop-2.result.0.now ≡ c.args.len = ap length piece ∙ part-long width c.args.from c.args.len (take width rest) c.requires.inside front.0 in
    let room = room-more k n c.args.len h in
    record {
      parts = ap (λ x. take c.put-at.result c.put-at.new.into ++ parts width c.args.from c.args.len (n - (k + 1)) x) c.cut.ensures.back
          ∙ parts-more width c.args.from c.args.len k n c.loop.at c.put-at.result c.loop.into c.put-at.new.into rest c.cut-in-loop-2.result.0.now _ h c.put-at.ensures.front piece c.loop.invariant.parts;
      rest = ap length c.cut.ensures.back ∙ front.1;
      at = omega (arith, room, long, c.put-at.ensures.end, c.loop.invariant.at);
      long = c.put-at.ensures.long ∙ c.loop.invariant.long;
    }
