use Rattle.std.proofs.Common.{◌≡◌, ◌+◌, ◌*◌, ◌≤◌, List, length}
use Rattle.mirror_volume.specs.LegRuns.{LegRun}
use Rattle.mirror_volume.specs.Mending.{IsRepairOf, RepairBy}
use Rattle.mirror_volume.specs.Helds.{none_mended, so_far}
use Rattle.mirror_volume.specs.Running.{CanRun, HasRunOnLegs}
use Rattle.mirror_volume.proofs.mirror.repair_all.Given as goal

abbrev pub invariant-loop-i : goal.invariant-loop-i
invariant-loop-i g l = record {
  ran : HasRunOnLegs l.plan l.fn.state.used l.state.used (g.R.Rig.state l.fn.rig) (g.R.Rig.state l.rig) (IsRepairOf l.plan.script l.plan.half)
      (λ (runs : List LegRun). RepairBy l.plan.script l.plan.half 0 l.i (none_mended l.fn.state.marks.items) (so_far l.state.marks.items l.done) runs);
  ready : CanRun l.plan l.state.used (g.R.Rig.state l.rig);
  pages : l.state.pool ≡ l.fn.state.pool;
  marks : length l.state.marks.items ≡ length l.fn.state.marks.items;
  few : l.done.repaired + l.done.lost ≤ 128 * l.i;
}
