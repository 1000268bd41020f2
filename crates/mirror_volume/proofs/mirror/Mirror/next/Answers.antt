use Rattle.std.proofs.Common.{◌≡◌, ◌+◌, ap, arith, length, subst, sym, ◌∙◌}
use Rattle.mirror_volume.specs.OnOps.{DidOp, RanOp, Sides}
use Rattle.mirror_volume.specs.Plans.{sides_of}
use Rattle.mirror_volume.specs.Standing.{op_at}
use Rattle.mirror_volume.proofs.Ends.{ran-none-left}
use Rattle.mirror_volume.proofs.Nexts.{IsBetween, op-stands}
use Rattle.mirror_volume.proofs.mirror.Mirror.next.Goals as goal
use Rattle.rig_api.specs.State.{RigState}

pub returns-then-at-as_slice-clause-op : goal.returns-then-at-as_slice-clause-op
returns-then-at-as_slice-clause-op g c =
    let self = c.args.self.now in
    let p = self.plan in
    let k = length self.replies.items in
    let before : RigState = g.R.Rig.state c.args.rig.now in
    let at : c.len-at.result ≡ k = c.len-at.ensures ∙ self.replies.ok.0 in
    let last : k ≡ length p.script.ops = sym at ∙ c.if-at-as_slice.true ∙ ap length c.as_slice.ensures in
    ran-none-left p.script p.devices.items p.half (k + 1) k self.state.used self.state.pool before _ last (λ e. cc)

pub returns-in-Ok-clause-op : goal.returns-in-Ok-clause-op
returns-in-Ok-clause-op g c =
    let self = c.args.self.now in
    let p = self.plan in
    let k = length self.replies.items in
    let before : RigState = g.R.Rig.state c.args.rig.now in
    let after : RigState = g.R.Rig.state c.do_op.new.rig in
    let at : c.len-at.result ≡ k = c.len-at.ensures ∙ self.replies.ok.0 in
    let new : Sides = record { pool = c.do_op.new.state.pool; marks = c.do_op.new.state.marks.items } in
    let x = subst (λ i. RanOp p.script p.devices.items p.half (i + 1) (op_at p.script.ops i) self.state.pool self.state.used c.do_op.new.state.used before after (λ runs. DidOp p.script p.half (i + 1) (op_at p.script.ops i) (sides_of self) new before after runs c.in-Ok.reply)) at c.in-Ok.ensures.ran in
    let first = c.requires.ready.mirror.done in
    let left = c.if-at-as_slice.false in
    let ops = ap length c.as_slice.ensures in
    let between : IsBetween p.script p.devices.items p.half (sides_of self) self.replies.items (g.R.Rig.state c.args.rig.now).image before = record {
      bound = c.requires.ready.mirror.plan.bound;
      half_is = c.requires.ready.mirror.plan.half;
      rig = c.requires.ready.rig;
      laid = g.met.R.Rig.laid c.args.rig.now;
      ready = g.met.R.Rig.ready c.args.rig.now;
      whole = c.pages-pages.ensures.whole;
      pages = c.requires.ready.mirror.pages;
      marks = c.requires.ready.mirror.marks;
      more = omega (arith, at, first, left, ops);
    } in
    let keeps = op-stands c.an_op_of_a_mirror_goes_on_in_its_walk.ensures p.script p.devices.items p.half (sides_of self) new x.runs self.replies.items c.in-Ok.reply (g.R.Rig.state c.args.rig.now).image before after between x.ran x.came in
    record { runs = x.runs; ran = x.ran; goes_on = x.goes_on; own = x.own; came = λ e. record { reply = c.in-Ok.reply; replies_are = c.push_reserved.ensures.items; did = x.came; keeps = keeps }; tells = x.tells; standing = x.standing }

pub returns-in-Err-clause-op : goal.returns-in-Err-clause-op
returns-in-Err-clause-op g c =
    let self = c.args.self.now in
    let p = self.plan in
    let k = length self.replies.items in
    let before : RigState = g.R.Rig.state c.args.rig.now in
    let after : RigState = g.R.Rig.state c.do_op.new.rig in
    let at : c.len-at.result ≡ k = c.len-at.ensures ∙ self.replies.ok.0 in
    let x = subst (λ i. RanOp p.script p.devices.items p.half (i + 1) (op_at p.script.ops i) self.state.pool self.state.used c.do_op.new.state.used before after (λ runs. Unit {0})) at c.in-Err.ensures.ran in
    record { runs = x.runs; ran = x.ran; goes_on = x.goes_on; own = x.own; came = λ e. cc; tells = x.tells; standing = x.standing }
