use Rattle.std.proofs.Common.{◌≡◌, ◌+◌, ◌≤◌, List, length, take}
use Rattle.mirror_volume.specs.Helds.{goods_in, so_far}
use Rattle.mirror_volume.specs.LegRuns.{LegRun}
use Rattle.mirror_volume.specs.Mending.{IsRepairOf, MendsBy, needs_by}
use Rattle.mirror_volume.specs.Running.{CanRun, HasRunOnLegs}
use Rattle.mirror_volume.proofs.repair.mend_all.Given as goal

abbrev pub invariant-loop-i : goal.invariant-loop-i
invariant-loop-i g l = record {
  ran : HasRunOnLegs l.plan l.fn.used l.used (g.R.Rig.state l.fn.rig) (g.R.Rig.state l.rig) (IsRepairOf l.plan.script l.plan.half)
      (λ (runs : List LegRun). MendsBy l.plan.script l.plan.half l.whole.n l.whole.v (take l.i (needs_by (goods_in l.plan.script.block l.held0) (goods_in l.plan.script.block l.held1)))
      (so_far l.fn.marks l.fn.done) (so_far l.marks l.done) runs);
  ready : CanRun l.plan l.used (g.R.Rig.state l.rig);
  marks : length l.marks ≡ length l.fn.marks;
  few : l.done.repaired + l.done.lost ≤ l.fn.done.repaired + (l.fn.done.lost + l.i);
}
