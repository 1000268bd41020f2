use Rattle.std.proofs.Common.{◌≡◌, length}
use Rattle.stack_ops.specs.Passed.{Rises}
use Rattle.script_text.specs.Segments.{any_share}
use Rattle.script_text.proofs.segments.do_neighbours_share.Given as goal

abbrev pub invariant-loop-rest : goal.invariant-loop-rest
invariant-loop-rest l = record {
  rises : Rises l.rest;
  share : any_share l.rest ≡ any_share l.segs;
}

abbrev pub decreases-loop-rest : goal.decreases-loop-rest
decreases-loop-rest l = length l.rest
