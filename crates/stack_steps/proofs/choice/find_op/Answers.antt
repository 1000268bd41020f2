use Rattle.std.proofs.Common.{arith, ap, sym, ◌∙◌, ◌≡◌, ℕ, true, false}
use Rattle.std.specs.Prelude.{if◌then◌else◌}
use Rattle.stack_steps.specs.Choices.{can_at}
use Rattle.merge_queue.proofs.Joins.{count-more, next-passed, next-failed, found}
use Rattle.stack_steps.proofs.choice.find_op.Goals as goal
use Rattle.stack_steps.proofs.choice.find_op.Goals.{then-can_do+else-left-eq0, else-can_do}

pub returns-then-left-eq0 : goal.returns-then-left-eq0
returns-then-left-eq0 g c =
    let e : can_at (g.P.Requests.plan c.args.plan.now) c.args.gate.now c.args.ops.now c.args.live.now c.args.step c.loop-at.at ≡ true = sym c.can_do.ensures ∙ c.if-can_do.true in
    let m = count-more (can_at (g.P.Requests.plan c.args.plan.now) c.args.gate.now c.args.ops.now c.args.live.now c.args.step) c.loop-at.at c.min-n.result (omega arith) in
    let k = ap {B = ℕ} (λ b. if b then 1 else 0) e in
    let f = found (can_at (g.P.Requests.plan c.args.plan.now) c.args.gate.now c.args.ops.now c.args.live.now c.args.step) c.loop-at.at c.min-n.result c.loop-at.left (omega arith) e (omega (arith, c.if-left-eq0.true)) in
    (omega (arith, m, k, c.loop-at.invariant.rest, c.if-left-eq0.true), sym f ∙ c.loop-at.invariant.same)

pub loop-at-preserved : goal.loop-at-preserved
loop-at-preserved g c =
    let m = count-more (can_at (g.P.Requests.plan c.args.plan.now) c.args.gate.now c.args.ops.now c.args.live.now c.args.step) c.loop-at.at c.min-n.result (omega arith) in
    elim c.if-can_do.branch [
      | then-can_do+else-left-eq0 w ↦
          let e : can_at (g.P.Requests.plan c.args.plan.now) c.args.gate.now c.args.ops.now c.args.live.now c.args.step c.loop-at.at ≡ true = sym c.can_do.ensures ∙ w.if-can_do.true in
          let k = ap {B = ℕ} (λ b. if b then 1 else 0) e in
          let p = next-passed (can_at (g.P.Requests.plan c.args.plan.now) c.args.gate.now c.args.ops.now c.args.live.now c.args.step) c.loop-at.at c.min-n.result c.loop-at.left (omega arith) e (omega (arith, w.if-left-eq0.false)) in
          rw w.left-is (record { same = p.same ∙ c.loop-at.invariant.same; rest = omega (arith, m, k, c.loop-at.invariant.rest, w.if-left-eq0.false) })
      | else-can_do w ↦
          let e : can_at (g.P.Requests.plan c.args.plan.now) c.args.gate.now c.args.ops.now c.args.live.now c.args.step c.loop-at.at ≡ false = sym c.can_do.ensures ∙ w.if-can_do.false in
          let k = ap {B = ℕ} (λ b. if b then 1 else 0) e in
          let p = next-failed (can_at (g.P.Requests.plan c.args.plan.now) c.args.gate.now c.args.ops.now c.args.live.now c.args.step) c.loop-at.at c.min-n.result c.loop-at.left (omega arith) e in
          rw w.left-is (record { same = p.same ∙ c.loop-at.invariant.same; rest = omega (arith, m, k, c.loop-at.invariant.rest) })
    ]
