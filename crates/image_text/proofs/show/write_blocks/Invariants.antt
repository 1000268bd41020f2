use Rattle.std.proofs.Common.{◌≡◌, ◌+◌, ◌*◌, ◌≤◌, length}
use Rattle.report_text.proofs.Written.{Writing}
use Rattle.rig_api.specs.Frames.{frames_of, stored_size}
use Rattle.image_text.specs.ShowText.{count_bad, count_unchecked, image_text}
use Rattle.image_text.proofs.show.write_blocks.Given as goal

abbrev pub invariant-loop-left : goal.invariant-loop-left
invariant-loop-left g l =
    let ty = l.unit.ty in
    let size = l.unit.size in
    let len = stored_size ty size in
    record {
      lines : Writing (g.O.Sink.taken) (g.O.Sink.faults) (image_text l.only_bad l.dev ty size l.first (frames_of len l.count l.frames)) (image_text l.only_bad l.dev ty size l.lba (frames_of len l.left l.rest)) l.initial.out l.out;
      bad : l.tally.bad + count_bad ty size l.dev l.lba (frames_of len l.left l.rest) ≡ count_bad ty size l.dev l.first (frames_of len l.count l.frames);
      unchecked : l.tally.unchecked + count_unchecked ty size l.lba (frames_of len l.left l.rest) ≡ count_unchecked ty size l.first (frames_of len l.count l.frames);
      few : l.tally.bad + l.left ≤ l.count;
      few_unchecked : l.tally.unchecked + l.left ≤ l.count;
      long : length l.rest ≡ l.left * len;
      end : l.lba + l.left ≡ l.first + l.count;
    }

abbrev pub decreases-loop-left : goal.decreases-loop-left
decreases-loop-left g l = l.left
