use Rattle.std.proofs.Common.{◌≡◌, true, false, ap, sym, ◌∙◌, arith}
use Rattle.stack_laws.specs.Runs.{most_steps}
use Rattle.stack_core.specs.Stacks.{plan_in}
use Rattle.script_stack.specs.Sends.{entries_of}
use Rattle.script_stack.proofs.Going.{goes_then, stays_then, went_on}
use Rattle.script_stack.proofs.SendsBy.{entries_long, entry_behind, sends_once, sends_then}
use Rattle.script_stack.proofs.Steps.{has-step, one-more}
use Rattle.script_stack.proofs.run.run_all.Goals as goal
use Rattle.rig_api.proofs.State.{stays-on}

pub loop-stack-smaller : goal.loop-stack-smaller
loop-stack-smaller g c =
    let s = c.loop-stack.stack in
    let h = has-step (plan_in s.sheet) s.machine (λ v x e. (let t : true ≡ false = sym ((c.finished.ensures v x).1 e) ∙ c.loop-stack-test.true in absurd cc)) in
    let k = one-more (plan_in s.sheet) s.machine c.step.new.self.machine 0 0 c.loop-stack.invariant.stands.stack.works h c.step.ensures.step in
    let a = k.one in
    let b = k.most in
    let e = ap (λ z. most_steps (plan_in z)) c.step.ensures.stays.sheet in
    omega arith

pub loop-stack-init : goal.loop-stack-init
loop-stack-init g c = record {
  stands = c.run_schedule.ensures.stands;
  stays = c.run_schedule.ensures.stays;
  rig = c.run_schedule.ensures.rig;
  went = c.run_schedule.ensures.went;
  goes = c.run_schedule.ensures.goes;
  sends = c.run_schedule.ensures.sends;
  long = λ z h. (let a = c.run_schedule.ensures.long z h in let b = entries_long c.args.schedule.now in omega arith);
}

pub loop-stack-preserved : goal.loop-stack-preserved
loop-stack-preserved g c =
    let s = c.loop-stack.stack in
    let es = entries_of c.args.schedule.now in
    let some = has-step (plan_in s.sheet) s.machine (λ v x e. (let t : true ≡ false = sym ((c.finished.ensures v x).1 e) ∙ c.loop-stack-test.true in absurd cc)) in
    record {
      stands = c.step.ensures.stands;
      stays = stays_then _ _ _ c.loop-stack.invariant.stays c.step.ensures.stays;
      rig = stays-on c.loop-stack.invariant.rig c.step.ensures.rig;
      went = went_on _ _ _ _ _ _ c.loop-stack.invariant.went c.step.ensures.went;
      goes = goes_then _ _ _ c.loop-stack.invariant.goes c.step.ensures.goes;
      sends = λ z. sends_then es _ _ _ _ _ _ c.loop-stack.invariant.stays (c.loop-stack.invariant.sends z) (sends_once es 0 0 _ _ _ _ (entry_behind es s.machine.steps (c.loop-stack.invariant.long z some)) c.step.ensures.sends);
      long = λ z next.
          (let k = one-more (plan_in s.sheet) s.machine c.step.new.self.machine 0 0 c.loop-stack.invariant.stands.stack.works some c.step.ensures.step in
          let a = k.one in
          let b = c.loop-stack.invariant.long z some in
          omega arith);
    }
