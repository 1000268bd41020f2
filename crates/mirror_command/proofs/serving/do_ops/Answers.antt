use Rattle.std.proofs.Common.{◌≡◌, suc, ◌+◌, Bool, true, [], ◌++◌, length, refl, ap, ◌∙◌, subst, arith}
use Rattle.std.specs.Prelude.{Ok, Result}
use Rattle.std.specs.declared.alloc.AllocError.{AllocError}
use Rattle.mirror_volume.specs.declared.legs.Plan.{Plan}
use Rattle.mirror_command.specs.Stages.{Broke, Served, stage_of}
use Rattle.mirror_command.proofs.Staging.{breaks-in-op, goes-on, next-served, none-yet, on-err}
use Rattle.mirror_command.proofs.serving.do_ops.Goals as goal
use Rattle.rig_api.specs.State.{RigState}

pub loop-init : goal.loop-init
loop-init g c =
    let begun = stage_of c.args.mirror.now [] (g.R.Rig.state c.args.rig.now) in
    record {
      ready = c.requires.ready;
      plan = refl;
      served = ([], none-yet c.args.mirror.now.plan.script c.args.mirror.now.plan.devices.items begun refl c.requires.begun.none c.requires.begun.unused c.requires.begun.stands);
      tells = refl;
      standing = refl;
    }

pub loop-preserved : goal.loop-preserved
loop-preserved g c =
    let s = c.args.mirror.now.plan.script in
    let devices = c.args.mirror.now.plan.devices.items in
    let before : RigState = g.R.Rig.state c.args.rig.now in
    let between : RigState = g.R.Rig.state c.loop.rig in
    let after : RigState = g.R.Rig.state c.next.new.rig in
    let inv = c.loop.invariant in
    let begun = stage_of c.args.mirror.now [] before in
    let old = stage_of c.loop.mirror inv.served.0 between in
    let served : Served s devices begun c.loop.counter old = inv.served.1 in
    let k = served.count in
    let many = ap (λ (p : Plan). length p.script.ops) inv.plan in
    let yes : c.in_ok-next.field-0 ≡ true = c.in_ok-next.ensures.more.1 (omega (arith, k, many, c.requires.count, c.loop-test.true)) in
    let op = rw (inv.plan, c.requires.ready.mirror.plan.half) at c.in_ok-next.ensures.op in
    let ok : ◌≡◌ {A = Result Bool AllocError} (Ok c.in_ok-next.field-0) (Ok true) = ap Ok yes in
    let last = op.came ok in
    let runs = inv.served.0 ++ op.runs in
    let new = stage_of c.next.new.self runs after in
    let next : Served s devices begun (suc c.loop.counter) new = next-served s devices begun c.loop.counter old new op.runs last.reply served op.ran op.goes_on last.did.0 last.did.1 last.replies_are refl last.keeps in
    let z : suc c.loop.counter ≡ c.loop.counter + 1 = omega arith in
    record {
      ready = goes-on inv.ready c.in_ok-next.ensures.plan c.in_ok-next.ensures.mirror c.in_ok-next.ensures.failed op.tells op.standing;
      plan = c.in_ok-next.ensures.plan ∙ inv.plan;
      served = (runs, subst (λ n. Served s devices begun n new) z next);
      tells = op.tells ∙ inv.tells;
      standing = op.standing ∙ inv.standing;
    }

pub returns-in_err-next-clause-done : goal.returns-in_err-next-clause-done
returns-in_err-next-clause-done g c =
    let s = c.args.mirror.now.plan.script in
    let devices = c.args.mirror.now.plan.devices.items in
    let before : RigState = g.R.Rig.state c.args.rig.now in
    let between : RigState = g.R.Rig.state c.loop.rig in
    let after : RigState = g.R.Rig.state c.next.new.rig in
    let inv = c.loop.invariant in
    let begun = stage_of c.args.mirror.now [] before in
    let old = stage_of c.loop.mirror inv.served.0 between in
    let served : Served s devices begun c.loop.counter old = inv.served.1 in
    let op = rw (inv.plan, c.requires.ready.mirror.plan.half) at c.in_err-next.ensures.op in
    let broke : Broke s devices begun after = breaks-in-op s devices begun c.loop.counter old after op.runs c.next.new.self.state.used served (omega (arith, c.requires.count, c.loop-test.true)) op.ran op.goes_on op.own in
    on-err c.from_residual.result _ (Broke s devices begun after) c.from_residual.ensures.0 broke

pub returns-in_err-next-clause-tells : goal.returns-in_err-next-clause-tells
returns-in_err-next-clause-tells g c = c.in_err-next.ensures.op.tells ∙ c.loop.invariant.tells

pub returns-in_err-next-clause-standing : goal.returns-in_err-next-clause-standing
returns-in_err-next-clause-standing g c = c.in_err-next.ensures.op.standing ∙ c.loop.invariant.standing
