use Rattle.std.proofs.Common.{◌≡◌, List, length, take}
use Rattle.mirror_volume.specs.Inner.{read_script}
use Rattle.mirror_volume.specs.Asked.{AreOf, IsReadOf, bytes_after, found_after}
use Rattle.mirror_volume.specs.LegRuns.{LegRun}
use Rattle.mirror_volume.specs.Running.{CanRun, HasRunOnLegs}
use Rattle.mirror_volume.proofs.reading.ask.Given as goal

abbrev pub invariant-loop-i : goal.invariant-loop-i
invariant-loop-i g l = record {
  ran : HasRunOnLegs l.plan l.fn.used l.used (g.R.Rig.state l.fn.rig) (g.R.Rig.state l.rig) (IsReadOf l.plan.script l.plan.half l.whole)
      (λ (runs : List LegRun). (AreOf (read_script l.plan.script l.plan.half) l.whole (take l.i l.parts.items) runs
      × ((l.came.found.items ≡ found_after (take l.i l.parts.items) runs l.fn.came.found.items) × (l.came.bytes.items ≡ bytes_after l.plan.script.block (take l.i l.parts.items) runs l.fn.came.bytes.items))));
  ready : CanRun l.plan l.used (g.R.Rig.state l.rig);
  found : length l.came.found.items ≡ length l.fn.came.found.items;
  bytes : length l.came.bytes.items ≡ length l.fn.came.bytes.items;
}
