use Rattle.std.proofs.Common.{sym, ◌∙◌, arith}
use Rattle.rig_api.specs.Frames.{stored_size}
use Rattle.flip_sweep.proofs.Spoiling.{found_here, not_here}
use Rattle.image_text.proofs.Frames.{shorter}
use Rattle.flip_sweep.proofs.spoilt.first_in.Goals as goal

pub returns-in-Some : goal.returns-in-Some
returns-in-Some c =
    let u = c.args.unit in
    found_here u.ty u.size c.args.dev c.loop-left.lba (stored_size u.ty u.size) c.stored_size-len.result c.loop-left.left c.loop-left.before.now c.loop-left.rest.now c.split_at.result.0.now c.split_at-in-loop-left.result.0.now c.in-Some.check
    c.stored_size-len.ensures.value c.split_at.ensures.front c.split_at-in-loop-left.ensures.front (sym c.new_finding.ensures ∙ c.in-Some.is) c.loop-left-test.true ∙ c.loop-left.invariant.spoilt

pub loop-left-preserved : goal.loop-left-preserved
loop-left-preserved c =
    let u = c.args.unit in
    let len = stored_size u.ty u.size in
    let inv = c.loop-left.invariant in
    record {
      spoilt = not_here u.ty u.size c.args.dev c.loop-left.lba len c.stored_size-len.result c.loop-left.left c.loop-left.before.now c.loop-left.rest.now c.split_at.result.0.now c.split_at-in-loop-left.result.0.now c.split_at.result.1.now c.split_at-in-loop-left.result.1.now
          c.stored_size-len.ensures.value c.split_at.ensures.front c.split_at.ensures.back c.split_at-in-loop-left.ensures.front c.split_at-in-loop-left.ensures.back (sym c.new_finding.ensures ∙ c.in_default.is) c.loop-left-test.true ∙ inv.spoilt;
      was = shorter c.loop-left.left len c.stored_size-len.result c.loop-left.before.now c.split_at.result.1.now c.loop-left-test.true inv.was c.stored_size-len.ensures.value c.split_at.ensures.back;
      now = shorter c.loop-left.left len c.stored_size-len.result c.loop-left.rest.now c.split_at-in-loop-left.result.1.now c.loop-left-test.true inv.now c.stored_size-len.ensures.value c.split_at-in-loop-left.ensures.back;
      end = omega (arith, inv.end, c.loop-left-test.true);
    }
