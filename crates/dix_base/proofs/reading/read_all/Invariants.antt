use Rattle.std.proofs.Common.{◌≡◌, ◌+◌, ◌≤◌, length}
use Rattle.dix_base.specs.Told.{Took}
use Rattle.dix_base.specs.Reading.{most_bytes}
use Rattle.dix_base.proofs.reading.read_all.Given as goal

abbrev pub invariant-loop-room : goal.invariant-loop-room
invariant-loop-room g l = record {
  taken : Took l.all.items (g.S.Source.left l.initial.source) (g.S.Source.left l.source);
  buffer : length l.buf ≡ 4096;
  sizes : length l.all.items + l.room ≡ most_bytes + 1;
  calm : g.S.Source.faults l.source ≡ g.S.Source.faults l.initial.source;
}

abbrev pub decreases-loop-room : goal.decreases-loop-room
decreases-loop-room g l = l.room
