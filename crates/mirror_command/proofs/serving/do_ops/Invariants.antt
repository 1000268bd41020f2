use Rattle.std.proofs.Common.{◌≡◌, List, [], is_some}
use Rattle.mirror_volume.specs.Passed.{LegRun}
use Rattle.mirror_volume.specs.Running.{CanGoOn}
use Rattle.mirror_command.specs.Stages.{Served, stage_of}
use Rattle.mirror_command.proofs.serving.do_ops.Given as goal

abbrev pub invariant-loop : goal.invariant-loop
invariant-loop g l = record {
  ready : CanGoOn l.mirror (g.R.Rig.state l.rig);
  plan : l.mirror.plan ≡ l.fn.mirror.plan;
  served : (runs : List LegRun) × Served l.fn.mirror.plan.script l.fn.mirror.plan.devices.items
      (stage_of l.fn.mirror [] (g.R.Rig.state l.fn.rig)) l.counter
      (stage_of l.mirror runs (g.R.Rig.state l.rig));
  tells : is_some (g.R.Rig.state l.rig).image ≡ is_some (g.R.Rig.state l.fn.rig).image;
  standing : (g.R.Rig.state l.rig).standing ≡ (g.R.Rig.state l.fn.rig).standing;
}
