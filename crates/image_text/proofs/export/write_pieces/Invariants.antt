use Rattle.std.proofs.Common.{◌≡◌, ◌*◌, ◌≤◌, length}
use Rattle.report_text.proofs.Written.{Writing}
use Rattle.rig_api.specs.Frames.{frames_of, stored_size}
use Rattle.image_text.specs.Dumps.{dump_of}
use Rattle.image_text.proofs.export.write_pieces.Given as goal

abbrev pub invariant-loop-left : goal.invariant-loop-left
invariant-loop-left g l =
    let size = l.unit.size in
    let len = stored_size l.unit.ty size in
    record {
      pieces : Writing (g.O.Sink.taken) (g.O.Sink.faults) (dump_of l.layout size (frames_of len l.count l.frames)) (dump_of l.layout size (frames_of len l.left l.rest)) l.initial.out l.out;
      long : length l.rest ≡ l.left * len;
    }

abbrev pub decreases-loop-left : goal.decreases-loop-left
decreases-loop-left g l = l.left
