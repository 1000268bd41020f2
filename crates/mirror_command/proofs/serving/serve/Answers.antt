use Rattle.std.proofs.Common.{[], length, subst, ◌∙◌}
use Rattle.mirror_command.specs.Stages.{Served, stage_of}
use Rattle.mirror_command.proofs.Staging.{ends-repair}
use Rattle.mirror_command.proofs.serving.serve.Goals as goal
use Rattle.rig_api.specs.State.{RigState}

pub returns-clause-done : goal.returns-clause-done
returns-clause-done g c =
    let s = c.args.mirror.now.plan.script in
    let devices = c.args.mirror.now.plan.devices.items in
    let mid = c.do_ops.new.mirror in
    let before : RigState = g.R.Rig.state c.args.rig.now in
    let between : RigState = g.R.Rig.state c.do_ops.new.rig in
    let after : RigState = g.R.Rig.state c.repair.new.rig in
    let begun = stage_of c.args.mirror.now [] before in
    let served = c.in_ok-do_ops.ensures.done in
    let old = stage_of mid served.0 between in
    let all : Served s devices begun (length s.ops) old = subst (λ n. Served s devices begun n old) c.requires.count served.1 in
    let ran = rw (c.do_ops.ensures.plan, c.requires.ready.mirror.plan.half) at c.repair.ensures.ran in
    ends-repair s devices begun old c.repair.new.self c.repair.result after ran.runs all ran.ran ran.goes_on ran.own ran.came c.repair.ensures.pages c.repair.ensures.replies

pub returns-clause-tells : goal.returns-clause-tells
returns-clause-tells g c = c.repair.ensures.ran.tells ∙ c.do_ops.ensures.tells

pub returns-clause-standing : goal.returns-clause-standing
returns-clause-standing g c = c.repair.ensures.ran.ran.standing ∙ c.do_ops.ensures.standing
