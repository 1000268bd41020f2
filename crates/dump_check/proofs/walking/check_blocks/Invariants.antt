use Rattle.std.proofs.Common.{◌≡◌, ◌+◌, ◌*◌, length}
use Rattle.report_text.proofs.Written.{Writing}
use Rattle.rig_api.specs.Frames.{frames_of}
use Rattle.dump_check.specs.Forms.{stride_of}
use Rattle.dump_check.specs.Lines.{blocks_text}
use Rattle.dump_check.specs.Tallies.{IsTally, counted_all}
use Rattle.dump_check.proofs.walking.check_blocks.Given as goal

abbrev pub invariant-loop-left : goal.invariant-loop-left
invariant-loop-left g l =
    let each = stride_of l.dump.form in
    record {
      lines : Writing (g.O.Sink.taken) (g.O.Sink.faults) (blocks_text l.dump l.fn.before.blocks (frames_of each l.count l.blocks)) (blocks_text l.dump l.tally.blocks (frames_of each l.left l.rest)) l.initial.out l.out;
      value : counted_all l.dump.form l.tally (frames_of each l.left l.rest) ≡ counted_all l.dump.form l.fn.before (frames_of each l.count l.blocks);
      tally : IsTally l.tally;
      many : l.tally.blocks + l.left ≡ l.fn.before.blocks + l.count;
      long : length l.rest ≡ l.left * each;
    }

abbrev pub decreases-loop-left : goal.decreases-loop-left
decreases-loop-left g l = l.left
