use Rattle.std.proofs.Common.{◌≡◌, ◌+◌, ◌-◌, ap, refl, sym, ◌∙◌, arith}
use Rattle.rig_api.specs.Frames.{frames_of}
use Rattle.report_text.proofs.Written.{as_left, begins, breaks, ends, writes}
use Rattle.image_text.proofs.Frames.{shorter}
use Rattle.dump_check.specs.Forms.{stride_of}
use Rattle.dump_check.specs.Lines.{blocks_text}
use Rattle.dump_check.specs.Tallies.{counted_all}
use Rattle.dump_check.proofs.Steps.{lines_at, tally_at}
use Rattle.dump_check.proofs.walking.check_blocks.Goals as goal

pub loop-left-init : goal.loop-left-init
loop-left-init g c = record { lines = begins; value = refl; tally = c.requires.tally; many = refl; long = c.requires.long }

pub returns-in_err-found-clause-wrote : goal.returns-in_err-found-clause-wrote
returns-in_err-found-clause-wrote g c =
    let d = c.args.dump in
    let rest = blocks_text d (c.loop-left.tally.blocks + 1) (frames_of (stride_of d.form) (c.loop-left.left - 1) c.split_at.result.1.now) in
    let next = lines_at d c.loop-left.tally.blocks (stride_of d.form) c.stride-each.result c.loop-left.left c.loop-left.rest.now c.split_at.result.0.now c.split_at.result.1.now c.stride-each.ensures c.split_at.ensures.front c.split_at.ensures.back c.loop-left-test.true in
    breaks rest c.from_residual.result c.from_residual.ensures.0 (as_left next c.loop-left.invariant.lines) c.in_err-found.ensures.wrote

pub loop-left-preserved : goal.loop-left-preserved
loop-left-preserved g c =
    let d = c.args.dump in
    let inv = c.loop-left.invariant in
    let each = stride_of d.form in
    let next = lines_at d c.loop-left.tally.blocks each c.stride-each.result c.loop-left.left c.loop-left.rest.now c.split_at.result.0.now c.split_at.result.1.now c.stride-each.ensures c.split_at.ensures.front c.split_at.ensures.back c.loop-left-test.true in
    let more = frames_of each (c.loop-left.left - 1) c.split_at.result.1.now in
    let one = c.counted-tally.ensures.one in
    record {
      lines = as_left (ap (λ n. blocks_text d n more) (sym one)) (writes (as_left next inv.lines) c.in_ok-found.ensures.wrote);
      value = tally_at d.form c.loop-left.tally c.counted-tally.result c.in_ok-found.found each c.stride-each.result c.loop-left.left c.loop-left.rest.now c.split_at.result.0.now c.split_at.result.1.now
          c.stride-each.ensures c.split_at.ensures.front c.split_at.ensures.back c.loop-left-test.true c.in_ok-found.ensures.found c.counted-tally.ensures.value ∙ inv.value;
      tally = c.counted-tally.ensures.tally;
      many = omega (arith, one, inv.many, c.loop-left-test.true);
      long = shorter c.loop-left.left each c.stride-each.result c.loop-left.rest.now c.split_at.result.1.now c.loop-left-test.true inv.long c.stride-each.ensures c.split_at.ensures.back;
    }

pub returns-clause-wrote : goal.returns-clause-wrote
returns-clause-wrote g c =
    let none : c.loop-left.left ≡ 0 = omega (arith, c.loop-left-test.false) in
    ends c.loop-left.invariant.lines (ap (λ n. blocks_text c.args.dump c.loop-left.tally.blocks (frames_of (stride_of c.args.dump.form) n c.loop-left.rest.now)) none)
