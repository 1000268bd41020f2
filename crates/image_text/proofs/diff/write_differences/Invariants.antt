use Rattle.std.proofs.Common.{◌≡◌, ◌+◌, ◌*◌, ◌≤◌, length}
use Rattle.report_text.proofs.Written.{Writing}
use Rattle.rig_api.specs.Frames.{frames_of, stored_size}
use Rattle.image_text.specs.DiffText.{count_differ, diff_lines}
use Rattle.image_text.proofs.diff.write_differences.Given as goal

abbrev pub invariant-loop-left : goal.invariant-loop-left
invariant-loop-left g l =
    let len = stored_size l.pair.unit.ty l.pair.unit.size in
    let other_len = stored_size l.pair.other_unit.ty l.pair.other_unit.size in
    record {
      lines : Writing (g.O.Sink.taken) (g.O.Sink.faults) (diff_lines l.pair l.first l.other_first (frames_of len l.count l.frames) (frames_of other_len l.count l.others)) (diff_lines l.pair l.lba l.other (frames_of len l.left l.rest) (frames_of other_len l.left l.other_rest))
          l.initial.out l.out;
      differ : l.differ + count_differ l.pair l.lba l.other (frames_of len l.left l.rest) (frames_of other_len l.left l.other_rest) ≡ count_differ l.pair l.first l.other_first (frames_of len l.count l.frames) (frames_of other_len l.count l.others);
      few : l.differ + l.left ≤ l.count;
      long : length l.rest ≡ l.left * len;
      other_long : length l.other_rest ≡ l.left * other_len;
      end : l.lba + l.left ≡ l.first + l.count;
      other_end : l.other + l.left ≡ l.other_first + l.count;
    }

abbrev pub decreases-loop-left : goal.decreases-loop-left
decreases-loop-left g l = l.left
