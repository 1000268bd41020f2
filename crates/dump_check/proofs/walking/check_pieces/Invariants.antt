use Rattle.std.proofs.Common.{ℕ, ◌≡◌, ◌-◌, List, length}
use Rattle.dix_base.specs.Told.{Took}
use Rattle.dump_check.specs.declared.walking.TheConstants.{MOST_BLOCKS}
use Rattle.dump_check.specs.Tallies.{IsTally}
use Rattle.dump_check.proofs.Passes.{IsWalked}
use Rattle.dump_check.proofs.walking.check_pieces.Given as goal

abbrev pub invariant-loop-tally : goal.invariant-loop-tally
invariant-loop-tally g l = record {
  room : length l.room ≡ length l.initial.room;
  walked : (bytes : List ℕ) × Took bytes (g.S.Source.left l.initial.source) (g.S.Source.left l.source) × IsWalked l.dump l.tally bytes (g.O.Sink.taken l.initial.out) (g.O.Sink.taken l.out);
  tally : IsTally l.tally;
  calm : g.S.Source.faults l.source ≡ g.S.Source.faults l.initial.source;
  sinks : g.O.Sink.faults l.out ≡ g.O.Sink.faults l.initial.out;
}

abbrev pub decreases-loop-tally : goal.decreases-loop-tally
decreases-loop-tally g l = MOST_BLOCKS - l.tally.blocks
