use Rattle.std.proofs.Common.{ℕ, List, ◌≡◌, ◌+◌, ◌-◌, ap, refl, arith}
use Rattle.rig_api.specs.Frames.{frames_of, stored_size}
use Rattle.image_text.specs.Sights.{is_at_fault, is_unchecked}
use Rattle.image_text.specs.ShowText.{count_bad, count_unchecked, image_text}
use Rattle.report_text.proofs.Written.{as_left, begins, breaks, ends, writes}
use Rattle.image_text.proofs.Showing.{at_most_one, bad_at, lines_at, unchecked_at}
use Rattle.image_text.proofs.Frames.{shorter}
use Rattle.image_text.proofs.show.write_blocks.Goals as goal

pub loop-left-init : goal.loop-left-init
loop-left-init g c = record { lines = begins; bad = omega arith; unchecked = omega arith; few = omega arith; few_unchecked = omega arith; long = c.requires.stored; end = refl }

pub returns-in_err-verdict-clause-wrote : goal.returns-in_err-verdict-clause-wrote
returns-in_err-verdict-clause-wrote g c =
    let u = c.args.unit in
    let len = stored_size u.ty u.size in
    let rest = image_text c.args.only_bad c.args.dev u.ty u.size (c.loop-left.lba + 1) (frames_of len (c.loop-left.left - 1) c.split_at.result.1.now) in
    let next = lines_at c.args.only_bad c.args.dev u.ty u.size c.loop-left.lba len c.stored_len.result c.loop-left.left c.loop-left.rest.now c.split_at.result.0.now c.split_at.result.1.now
    c.stored_len.ensures c.split_at.ensures.front c.split_at.ensures.back c.loop-left-test.true in
    breaks rest c.from_residual.result c.from_residual.ensures.0 (as_left next c.loop-left.invariant.lines) c.in_err-verdict.ensures.wrote

pub loop-left-preserved : goal.loop-left-preserved
loop-left-preserved g c =
    let u = c.args.unit in
    let len = stored_size u.ty u.size in
    let next = lines_at c.args.only_bad c.args.dev u.ty u.size c.loop-left.lba len c.stored_len.result c.loop-left.left c.loop-left.rest.now c.split_at.result.0.now c.split_at.result.1.now
    c.stored_len.ensures c.split_at.ensures.front c.split_at.ensures.back c.loop-left-test.true in
    let found = c.in_ok-verdict.verdict in
    record {
      lines = writes (as_left next c.loop-left.invariant.lines) c.in_ok-verdict.ensures.wrote;
      bad = bad_at c.args.dev u.ty u.size c.loop-left.lba len c.stored_len.result c.loop-left.left c.loop-left.tally.bad c.tallied-tally.result.bad
          (count_bad u.ty u.size c.args.dev c.args.first (frames_of len c.args.count c.args.frames.now)) found c.loop-left.rest.now c.split_at.result.0.now c.split_at.result.1.now
          c.stored_len.ensures c.split_at.ensures.front c.split_at.ensures.back c.in_ok-verdict.ensures.verdict c.loop-left-test.true c.loop-left.invariant.bad c.tallied-tally.ensures.bad;
      unchecked = unchecked_at u.ty u.size c.loop-left.lba len c.stored_len.result c.loop-left.left c.loop-left.tally.unchecked c.tallied-tally.result.unchecked
          (count_unchecked u.ty u.size c.args.first (frames_of len c.args.count c.args.frames.now)) found c.loop-left.rest.now c.split_at.result.0.now c.split_at.result.1.now
          c.stored_len.ensures c.split_at.ensures.front c.split_at.ensures.back c.in_ok-verdict.ensures.verdict c.loop-left-test.true c.loop-left.invariant.unchecked c.tallied-tally.ensures.unchecked;
      few = at_most_one (is_at_fault found) c.loop-left.tally.bad c.tallied-tally.result.bad c.loop-left.left c.args.count c.tallied-tally.ensures.bad c.loop-left.invariant.few c.loop-left-test.true;
      few_unchecked = at_most_one (is_unchecked found) c.loop-left.tally.unchecked c.tallied-tally.result.unchecked c.loop-left.left c.args.count c.tallied-tally.ensures.unchecked c.loop-left.invariant.few_unchecked c.loop-left-test.true;
      long = shorter c.loop-left.left len c.stored_len.result c.loop-left.rest.now c.split_at.result.1.now c.loop-left-test.true c.loop-left.invariant.long c.stored_len.ensures c.split_at.ensures.back;
      end = omega (arith, c.loop-left.invariant.end, c.loop-left-test.true);
    }

pub returns-clause-wrote : goal.returns-clause-wrote
returns-clause-wrote g c =
    let none : c.loop-left.left ≡ 0 = omega (arith, c.loop-left-test.false) in
    ends c.loop-left.invariant.lines (ap (λ n. image_text c.args.only_bad c.args.dev c.args.unit.ty c.args.unit.size c.loop-left.lba (frames_of (stored_size c.args.unit.ty c.args.unit.size) n c.loop-left.rest.now)) none)
