use Rattle.std.proofs.Common.{◌≡◌, ◌+◌, ◌-◌, ◌++◌, ◌≤◌, length, take, drop, ap, arith, ◌∙◌}
use Rattle.nvme_front.proofs.Walks.{frames-all, frames-more, long-front, room-more}
use Rattle.nvme_front.specs.Buffers.{frames_out, tuple_for}
use Rattle.nvme_front.proofs.buffers.put_frames.Goals as goal

pub loop-k-preserved : goal.loop-k-preserved
loop-k-preserved c =
    let size = c.args.size in
    let k = c.loop-k.k in
    let n = c.args.command.now.count in
    let bytes = c.loop-k.data.now in
    let tuples = c.loop-k.tuples.now in
    let h = c.loop-k-test.true in
    let front = long-front size 0 k n bytes h c.loop-k.invariant.block in
    let room = room-more k n (size + 8) h in
    let block = c.cut.ensures.front in
    let long : length c.cut.result.0.now ≡ size = ap length block ∙ front.0 in
    let tuple : c.tuple_for.result ≡ tuple_for c.args.ty c.args.command.now k (take size bytes) (take 8 tuples) =
    c.tuple_for.ensures ∙ ap (λ x. tuple_for c.args.ty c.args.command.now k x c.cut-in-loop-k.result.0.now) block ∙ ap (tuple_for c.args.ty c.args.command.now k (take size bytes)) c.cut-in-loop-k.ensures.front in
    record {
      frames = ap (λ x. take c.put-at-in-loop-k.result c.put-at-in-loop-k.new.into ++ frames_out c.args.ty c.args.command.now size (k + 1) (n - (k + 1)) x c.cut-in-loop-k.result.1.now) c.cut.ensures.back
          ∙ ap (λ x. take c.put-at-in-loop-k.result c.put-at-in-loop-k.new.into ++ frames_out c.args.ty c.args.command.now size (k + 1) (n - (k + 1)) (drop size bytes) x) c.cut-in-loop-k.ensures.back
          ∙ frames-more c.args.ty c.args.command.now size k n c.loop-k.at c.put-at.result c.put-at-in-loop-k.result c.loop-k.frames c.put-at.new.into c.put-at-in-loop-k.new.into bytes tuples c.cut.result.0.now c.tuple_for.result _ h
          c.put-at.ensures.front c.put-at-in-loop-k.ensures.front block tuple c.loop-k.invariant.frames;
      at = omega (arith, room, long, c.put-at.ensures.end, c.put-at-in-loop-k.ensures.end, c.loop-k.invariant.at);
      block = ap length c.cut.ensures.back ∙ front.1;
      tuples = λ p. ap length c.cut-in-loop-k.ensures.back ∙ (long-front 8 0 k n tuples h (c.loop-k.invariant.tuples p)).1;
      long = c.put-at-in-loop-k.ensures.long ∙ c.put-at.ensures.long ∙ c.loop-k.invariant.long;
    }

pub returns : goal.returns
returns c =
    let h : c.args.command.now.count ≤ c.loop-k.k = omega arith in
    record {
      frames = frames-all c.args.ty c.args.command.now c.args.size c.loop-k.k c.args.command.now.count c.loop-k.at (c.args.size + 8) c.loop-k.frames c.loop-k.data.now c.loop-k.tuples.now _ h c.loop-k.invariant.at c.loop-k.invariant.frames;
      long = c.loop-k.invariant.long;
    }
