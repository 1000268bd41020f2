use Rattle.std.proofs.Common.{◌≡◌, ◌*◌, length}
use Rattle.report_text.proofs.Flow.{Left}
use Rattle.flip_sweep.specs.Flips.{AreSites}
use Rattle.flip_sweep.specs.Ground.{swept_in}
use Rattle.flip_sweep.specs.Rows.{IsSmall, none_yet}
use Rattle.flip_sweep.specs.Swept.{all_rows, counts_with}
use Rattle.flip_sweep.proofs.sweep.sweep_sites.Given as goal

abbrev pub invariant-loop-site : goal.invariant-loop-site
invariant-loop-site g l = record {
  rows : Left (all_rows (swept_in l.base) l.sites) (all_rows (swept_in l.base) l.rest) (g.O.Sink.taken l.initial.out) (g.O.Sink.taken l.out);
  counted : counts_with (swept_in l.base) l.counts l.rest ≡ counts_with (swept_in l.base) none_yet l.sites;
  small : IsSmall l.counts (4104 * length l.rest);
  sites : AreSites l.rest;
  count : g.O.Sink.faults l.out ≡ g.O.Sink.faults l.initial.out;
}

abbrev pub decreases-loop-site : goal.decreases-loop-site
decreases-loop-site g l = length l.rest
