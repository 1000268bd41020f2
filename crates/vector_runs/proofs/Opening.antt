-- An image that was opened for a list.
use Rattle.std.proofs.Common.{ℕ, ◌≡◌, inl, List, [], length, None, sym, ap, subst, ◌∙◌, arith}
use Rattle.fault_schedule.specs.declared.fault.FaultLine.{FaultLine}
use Rattle.rig_api.specs.Head.{units_of}
use Rattle.rig_api.specs.Telling.{units_told}
use Rattle.rig_api.specs.State.{RigState}
use Rattle.image_commands.specs.Causes.{CauseUnopened}
use Rattle.rig_discovery.specs.Openings.{HasKept, OpenedOnce, ImageWasOpened}
use Rattle.call_refusal.specs.declared.refusal.Refusal.{Refusal}
use Rattle.call_refusal.specs.declared.refusal.Refusal.TheVariants as refusal
use Rattle.vector_lines.specs.declared.line.VectorLine.{VectorLine}
use Rattle.vector_runs.specs.Answered.{CauseUnanswered, IsReady}

pub unopened : (r : Refusal) (name : List ℕ) (lines : List VectorLine) (a b : RigState) → CauseUnopened r name a b → HasKept a b → OpenedOnce name a.standing b.standing → CauseUnanswered r name lines a b
unopened (refusal.Script f) name lines a b c k o = absurd c
unopened refusal.Memory name lines a b c k o = inl (k, o)
unopened _ name lines a b c k o = (c, k)

-- the image was opened, and then no fault was armed
pub ready_by : (name : List ℕ) (a b c : RigState) (lines : List FaultLine) → ImageWasOpened name None a b → b.standing.devices ≡ length (units_of b.standing.head) → HasKept a b → c ≡ record b { armed = lines } → lines ≡ [] → c.units ≡ units_told c.standing c.image →
    IsReady name a c
ready_by name a b c lines w d k e none laid = record {
  opened = subst (λ (s : RigState). ImageWasOpened name None a s) (sym e) (record { opened = w.opened; judged = w.judged; head = w.head });
  counted = subst (λ (s : RigState). s.standing.devices ≡ length (units_of s.standing.head)) (sym e) d;
  laid = laid;
  image = ap (λ (s : RigState). s.image) e ∙ k.image;
  log = ap (λ (s : RigState). s.log) e ∙ k.log;
  armed = ap (λ (s : RigState). s.armed) e ∙ none;
  count = omega (arith, ap (λ (s : RigState). s.faults) e, k.count);
}
