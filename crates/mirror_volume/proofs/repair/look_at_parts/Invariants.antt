use Rattle.std.proofs.Common.{List, take}
use Rattle.mirror_volume.specs.Inner.{read_pi_script}
use Rattle.mirror_volume.specs.Asked.{AreOf}
use Rattle.mirror_volume.specs.Helds.{IsAfter, IsSeen}
use Rattle.mirror_volume.specs.LegRuns.{LegRun}
use Rattle.mirror_volume.specs.Mending.{IsRepairOf}
use Rattle.mirror_volume.specs.Running.{CanRun, HasRunOnLegs}
use Rattle.mirror_volume.proofs.repair.look_at_parts.Given as goal

abbrev pub invariant-loop-i : goal.invariant-loop-i
invariant-loop-i g l = record {
  ran : HasRunOnLegs l.plan l.fn.used l.used (g.R.Rig.state l.fn.rig) (g.R.Rig.state l.rig) (IsRepairOf l.plan.script l.plan.half)
      (λ (runs : List LegRun). (AreOf (read_pi_script l.plan.script l.plan.half) l.whole (take l.i l.parts.items) runs × IsAfter l.plan.script.block (take l.i l.parts.items) runs l.fn.seen l.seen));
  ready : CanRun l.plan l.used (g.R.Rig.state l.rig);
  seen : IsSeen l.plan.script.block l.whole.n l.seen;
}
