-- Lines go on, one for each two blocks that differ.
use Rattle.std.proofs.Common.{◌≡◌, ◌+◌, ◌-◌, refl, ap, arith}
use Rattle.rig_api.specs.Frames.{frames_of, stored_size}
use Rattle.image_text.specs.DiffText.{count_differ, diff_line, diff_lines}
use Rattle.report_text.proofs.Written.{as_left, begins, breaks, ends, writes}
use Rattle.image_text.proofs.Differing.{diff_at, differ_at}
use Rattle.image_text.proofs.Showing.{at_most_one}
use Rattle.image_text.proofs.Frames.{shorter}
use Rattle.image_text.proofs.diff.write_differences.Goals as goal

pub loop-left-init : goal.loop-left-init
loop-left-init g c = record { lines = begins; differ = omega arith; few = omega arith; long = c.requires.stored; other_long = c.requires.others; end = refl; other_end = refl }

pub returns-in_err-is_other-clause-wrote : goal.returns-in_err-is_other-clause-wrote
returns-in_err-is_other-clause-wrote g c =
    let p = c.args.pair in
    let len = stored_size p.unit.ty p.unit.size in
    let other_len = stored_size p.other_unit.ty p.other_unit.size in
    let rest = diff_lines p (c.loop-left.lba + 1) (c.loop-left.other + 1) (frames_of len (c.loop-left.left - 1) c.split_at.result.1.now) (frames_of other_len (c.loop-left.left - 1) c.split_at-in-loop-left.result.1.now) in
    let line = diff_line p c.loop-left.lba c.loop-left.other c.split_at.result.0.now c.split_at-in-loop-left.result.0.now in
    let next = diff_at p c.loop-left.lba c.loop-left.other len other_len c.stored_len-len.result c.stored_len-other_len.result c.loop-left.left c.loop-left.rest.now c.loop-left.other_rest.now c.split_at.result.0.now c.split_at-in-loop-left.result.0.now c.split_at.result.1.now c.split_at-in-loop-left.result.1.now
    line c.stored_len-len.ensures c.stored_len-other_len.ensures c.split_at.ensures.front c.split_at-in-loop-left.ensures.front c.split_at.ensures.back c.split_at-in-loop-left.ensures.back refl c.loop-left-test.true in
    breaks rest c.from_residual.result c.from_residual.ensures.0 (as_left next c.loop-left.invariant.lines) c.in_err-is_other.ensures.wrote

pub loop-left-preserved : goal.loop-left-preserved
loop-left-preserved g c =
    let p = c.args.pair in
    let len = stored_size p.unit.ty p.unit.size in
    let other_len = stored_size p.other_unit.ty p.other_unit.size in
    let line = diff_line p c.loop-left.lba c.loop-left.other c.split_at.result.0.now c.split_at-in-loop-left.result.0.now in
    let next = diff_at p c.loop-left.lba c.loop-left.other len other_len c.stored_len-len.result c.stored_len-other_len.result c.loop-left.left c.loop-left.rest.now c.loop-left.other_rest.now c.split_at.result.0.now c.split_at-in-loop-left.result.0.now c.split_at.result.1.now c.split_at-in-loop-left.result.1.now
    line c.stored_len-len.ensures c.stored_len-other_len.ensures c.split_at.ensures.front c.split_at-in-loop-left.ensures.front c.split_at.ensures.back c.split_at-in-loop-left.ensures.back refl c.loop-left-test.true in
    record {
      lines = writes (as_left next c.loop-left.invariant.lines) c.in_ok-is_other.ensures.wrote;
      differ = differ_at p c.loop-left.lba c.loop-left.other len other_len c.stored_len-len.result c.stored_len-other_len.result c.loop-left.left c.loop-left.differ c.counted-differ.result
          (count_differ p c.args.first c.args.other_first (frames_of len c.args.count c.args.frames.now) (frames_of other_len c.args.count c.args.others.now)) c.in_ok-is_other.is_other
          c.loop-left.rest.now c.loop-left.other_rest.now c.split_at.result.0.now c.split_at-in-loop-left.result.0.now c.split_at.result.1.now c.split_at-in-loop-left.result.1.now
          c.stored_len-len.ensures c.stored_len-other_len.ensures c.split_at.ensures.front c.split_at-in-loop-left.ensures.front c.split_at.ensures.back c.split_at-in-loop-left.ensures.back c.in_ok-is_other.ensures.differ c.loop-left-test.true c.loop-left.invariant.differ c.counted-differ.ensures;
      few = at_most_one c.in_ok-is_other.is_other c.loop-left.differ c.counted-differ.result c.loop-left.left c.args.count c.counted-differ.ensures c.loop-left.invariant.few c.loop-left-test.true;
      long = shorter c.loop-left.left len c.stored_len-len.result c.loop-left.rest.now c.split_at.result.1.now c.loop-left-test.true c.loop-left.invariant.long c.stored_len-len.ensures c.split_at.ensures.back;
      other_long = shorter c.loop-left.left other_len c.stored_len-other_len.result c.loop-left.other_rest.now c.split_at-in-loop-left.result.1.now c.loop-left-test.true c.loop-left.invariant.other_long c.stored_len-other_len.ensures c.split_at-in-loop-left.ensures.back;
      end = omega (arith, c.loop-left.invariant.end, c.loop-left-test.true);
      other_end = omega (arith, c.loop-left.invariant.other_end, c.loop-left-test.true);
    }

pub returns-clause-wrote : goal.returns-clause-wrote
returns-clause-wrote g c =
    let p = c.args.pair in
    let none : c.loop-left.left ≡ 0 = omega (arith, c.loop-left-test.false) in
    ends c.loop-left.invariant.lines (ap (λ n. diff_lines p c.loop-left.lba c.loop-left.other (frames_of (stored_size p.unit.ty p.unit.size) n c.loop-left.rest.now) (frames_of (stored_size p.other_unit.ty p.other_unit.size) n c.loop-left.other_rest.now)) none)
