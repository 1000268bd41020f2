use Rattle.std.proofs.Common.{◌≡◌, true, false, refl, sym, ◌∙◌, arith}
use Rattle.stack_core.specs.Stacks.{plan_in}
use Rattle.stack_core.proofs.Goes.{goes-nowhere}
use Rattle.script_stack.proofs.Going.{goes_then, stays_then, went_nowhere, went_on}
use Rattle.script_stack.proofs.SendsBy.{entry_here, sends_nowhere, sends_once, sends_then}
use Rattle.script_stack.proofs.Steps.{has-step, one-more}
use Rattle.script_stack.proofs.run.run_schedule.Goals as goal
use Rattle.rig_api.proofs.State.{stays-still, stays-on}

pub loop-word-preserved : goal.loop-word-preserved
loop-word-preserved g c = record {
  stands = c.step.ensures.stands;
  stays = stays_then _ _ _ c.loop-word.invariant.stays c.step.ensures.stays;
  rig = stays-on c.loop-word.invariant.rig c.step.ensures.rig;
  went = went_on _ _ _ _ _ _ c.loop-word.invariant.went c.step.ensures.went;
  goes = goes_then _ _ _ c.loop-word.invariant.goes c.step.ensures.goes;
  sends = λ z. sends_then _ _ _ _ _ _ _ c.loop-word.invariant.stays (c.loop-word.invariant.sends z) (sends_once _ _ _ _ _ _ _ (entry_here c.args.schedule.now c.loop-word.word-index c.loop-word.stack.machine.steps (c.loop-word.invariant.steps z)) c.step.ensures.sends);
  steps = λ z.
      (let s = c.loop-word.stack in
      let h = has-step (plan_in s.sheet) s.machine (λ v x e. (let t : true ≡ false = sym ((c.finished.ensures v x).1 e) ∙ c.if-finished.false in absurd cc)) in
      let k = one-more (plan_in s.sheet) s.machine c.step.new.self.machine _ _ c.loop-word.invariant.stands.stack.works h c.step.ensures.step in
      let a = k.one in
      let b = c.loop-word.invariant.steps z in
      omega arith);
}

pub loop-word-init : goal.loop-word-init
loop-word-init g c = record {
  stands = c.requires;
  stays = record { sheet = refl; adapter = refl; host = refl };
  rig = stays-still _;
  went = went_nowhere _ _;
  goes = goes-nowhere _;
  sends = λ z. sends_nowhere _ _ _;
  steps = λ z. z;
}
