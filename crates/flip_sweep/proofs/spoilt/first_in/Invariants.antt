use Rattle.std.proofs.Common.{◌≡◌, ◌+◌, ◌*◌, length}
use Rattle.rig_api.specs.Frames.{frames_of, stored_size}
use Rattle.flip_sweep.specs.Verdicts.{first_spoilt_from}
use Rattle.flip_sweep.proofs.spoilt.first_in.Given as goal

abbrev pub invariant-loop-left : goal.invariant-loop-left
invariant-loop-left l =
    let ty = l.unit.ty in
    let size = l.unit.size in
    let len = stored_size ty size in
    record {
      spoilt : first_spoilt_from ty size l.dev l.lba (frames_of len l.left l.before) (frames_of len l.left l.rest)
          ≡ first_spoilt_from ty size l.dev l.unit.first (frames_of len l.unit.blocks l.was) (frames_of len l.unit.blocks l.now);
      was : length l.before ≡ l.left * len;
      now : length l.rest ≡ l.left * len;
      end : l.lba + l.left ≡ l.unit.first + l.unit.blocks;
    }

abbrev pub decreases-loop-left : goal.decreases-loop-left
decreases-loop-left l = l.left
