-- Nothing failed at the medium before the first step.
use Rattle.std.proofs.Common.{◌≡◌, inl, ℕ, zero, suc, List, replicate, refl, ap, ◌∙◌, arith}
use Rattle.bio_core.specs.declared.fate.Fate.TheVariants.{Untouched}
use Rattle.fault_schedule.specs.declared.fault.FaultLine.{FaultLine}
use Rattle.script_text.specs.Passed.{Silent}
use Rattle.stack_laws.specs.View.{start}
use Rattle.stack_core.specs.Passed.{Holds}
use Rattle.stack_core.specs.declared.stack.Stack.{Stack}
use Rattle.stack_core.specs.Mediums.{HasCounted, kept_unscheduled, label_kept, medium_replies}
use Rattle.stack_core.specs.Stacks.{plan_in}
use Rattle.stack_core.proofs.MediumFates.{untouched_held}

pub silent_replies : (n : ℕ) → medium_replies (replicate n Silent) ≡ 0
silent_replies zero = refl
silent_replies (suc n) = let r = silent_replies n in omega (arith, r)

pub none_counted : (s : Stack) (n k : ℕ) → Holds (plan_in s.sheet) s.machine (start (plan_in s.sheet)) → s.kept.held.items ≡ replicate n Untouched → s.replies.items ≡ replicate k Silent → (faults : List FaultLine) (first : ℕ) → HasCounted faults first s first
none_counted s n k h held replies faults first =
    let a = ap (kept_unscheduled faults s.sheet.ios.items) held ∙ untouched_held faults (label_kept 1 s.sheet.ios.items) 0 n in
    let b = ap medium_replies replies ∙ silent_replies k in
    record { view = start (plan_in s.sheet); holds = h; rose = inl (omega (arith, a, b)) }
