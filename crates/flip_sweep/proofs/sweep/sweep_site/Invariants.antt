use Rattle.std.proofs.Common.{◌≡◌, ◌+◌, ◌-◌, ◌<◌}
use Rattle.report_text.proofs.Flow.{Left}
use Rattle.flip_sweep.specs.Ground.{swept_in}
use Rattle.flip_sweep.specs.Rows.{IsSmall, all_counted}
use Rattle.flip_sweep.specs.Swept.{rows_at, verdicts_at}
use Rattle.flip_sweep.proofs.Sweeping.{behind, open_rows}
use Rattle.flip_sweep.proofs.sweep.sweep_site.Given as goal

abbrev pub invariant-loop-current : goal.invariant-loop-current
invariant-loop-current g l =
    let w = swept_in l.base in
    let len = l.base.script.now.block + 8 in
    record {
      rows : Left (rows_at w l.site) (open_rows w l.site l.current) (g.O.Sink.taken l.initial.out) (g.O.Sink.taken l.out);
      counted : all_counted l.counted (behind w l.site l.current) ≡ all_counted l.fn.counts (verdicts_at w l.site);
      small : IsSmall l.counted (len - (l.current.last + 1));
      within : l.current.last < len;
      count : g.O.Sink.faults l.out ≡ g.O.Sink.faults l.initial.out;
    }

abbrev pub decreases-loop-current : goal.decreases-loop-current
decreases-loop-current g l = l.base.script.now.block + 8 - l.current.last
