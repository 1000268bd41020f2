use Rattle.mirror_volume.specs.Helds.{so_far}
use Rattle.mirror_volume.specs.Plans.{sides_of}
use Rattle.mirror_volume.proofs.RepairTold.{repair-told}
use Rattle.mirror_volume.proofs.Running.{run-so}
use Rattle.mirror_volume.proofs.mirror.Mirror.repair.Goals as goal

pub returns-in-Ok-clause-ran : goal.returns-in-Ok-clause-ran
returns-in-Ok-clause-ran g c =
    let mirror = c.args.self.now in
    let good = c.requires.ready.mirror in
    let rig = c.args.rig.now in
    let law = c.a_repair_of_a_mirror_is_that_of_its_walk.ensures in
    let new = so_far c.repair_all.new.state.marks.items c.in-Ok.done in
    let x = c.in-Ok.ensures.ran in
    let told = repair-told law mirror.plan.script mirror.plan.devices.items mirror.plan.half good.plan.bound good.plan.half (g.R.Rig.state rig).standing (g.R.Rig.state rig).image c.requires.ready.rig (g.met.R.Rig.ready rig) _ _ (sides_of mirror) mirror.replies.items new x.runs (g.met.R.Rig.laid rig) good.marks x.ran x.came in
    run-so _ x (λ s h. h) (x.came, told)
