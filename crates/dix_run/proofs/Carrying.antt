-- The commands come to their ends where nothing is at fault.
use Rattle.std.proofs.Common.{ℕ, ◌≡◌, ◌⊎◌, inl, inr, List, Option, Some, None, refl, sym, ap, subst}
use Rattle.dix_base.specs.Told.{Calm}
use Rattle.dix_base.proofs.Counts.{never_rose}
use Rattle.rig_api.specs.Head.{head_fault, head_of}
use Rattle.rig_api.specs.State.{RigState}
use Rattle.image_commands.specs.Causes.{CauseUnformatted, CauseUnmigrated, CauseUnscrubbed}
use Rattle.rig_discovery.proofs.Opened.{right_head, told_is_good}
use Rattle.nvme_command.specs.Causes.{CauseNotDone}
use Rattle.nvme_command.proofs.Completes.{spared_alone}
use Rattle.call_verdict.specs.Words.{image_in}
use Rattle.rig_api.specs.declared.units.UnitSpec.{UnitSpec}
use Rattle.dix_run.specs.Grammar.{command_in}
use Rattle.dix_run.specs.declared.command.Command.{Command}
use Rattle.dix_run.specs.declared.command.Command.TheVariants.{Run, Trace, Format, Migrate, Mirror, Scrub, Nvme, Modes, Big}
use Rattle.mirror_command.proofs.Completing.{complete as mirror_complete}
use Rattle.mirror_command.specs.Texts.{is_any_lost}
use Rattle.mirror_command.specs.Verdict.{IsComplete as MirrorComplete}
use Rattle.run_command.proofs.Completing.{complete}
use Rattle.run_command.specs.Texts.{has_bad}
use Rattle.run_command.specs.Verdict.{IsComplete as RunComplete}
use Rattle.call_refusal.specs.declared.refusal.Refusal.{Refusal as Stop}
use Rattle.call_refusal.specs.declared.refusal.Refusal.TheVariants as stop
use Rattle.call_verdict.proofs.Verdicts.{completed, done_is}
use Rattle.dix_run.specs.Commands.{Ended, IsRightRun, work_of}
use Rattle.dix_run.specs.Headline.{Carries}
use Rattle.dix_run.specs.ScrubText.{has_some}
use Rattle.call_verdict.specs.Verdicts.{Cause, Done, EndedAs, Refused, RunsOrFails, Verdict, done_status, verdict_status}
use Rattle.dix_run.specs.Verdict.{ByCause, CauseNotCommanded, CauseNotMirrored, CauseNotRun, Facts, call_of, dix, status_of}
use Rattle.dix_run.specs.declared.refusal.Refusal.{Refusal}
use Rattle.dix_run.specs.declared.refusal.Refusal.TheVariants as refusal
use Rattle.call_verdict.specs.declared.status.Status.{Status}
use Rattle.call_verdict.specs.declared.status.Status.TheVariants as status
use Rattle.dix_run.proofs.Opening.{opens}

-- ---- scripts

stopped_from_outside : (s : Stop) → (s ≡ stop.Memory) ⊎ (s ≡ stop.RigFault) → (status_of (refusal.Stopped s) ≡ status.Memory) ⊎ (status_of (refusal.Stopped s) ≡ status.RigFault)
stopped_from_outside s (inl e) = inl (ap (λ (x : Stop). status_of (refusal.Stopped x)) e)
stopped_from_outside s (inr e) = inr (ap (λ (x : Stop). status_of (refusal.Stopped x)) e)

from_outside : (f : Facts) (r : Refusal) → CauseNotRun r f → ((s : Stop) → RunComplete s (call_of f) → (s ≡ stop.Memory) ⊎ (s ≡ stop.RigFault)) → (status_of r ≡ status.Memory) ⊎ (status_of r ≡ status.RigFault)
from_outside f refusal.Words c alone = absurd c
from_outside f (refusal.Stopped s) c alone = stopped_from_outside s (alone s (complete s (call_of f) c))

not_run : (f : Facts) (r : Refusal) → CauseNotRun r f → IsRightRun f → RunsOrFails (status_of r)
not_run f r c h = inr (from_outside f r c (λ s whole. whole h.text h.image h.script h.text_is h.language h.image_is h.head h.volume h.lines h.calm))

mirror_from_outside : (f : Facts) (r : Refusal) → CauseNotMirrored r f → ((s : Stop) → MirrorComplete s (call_of f) → (s ≡ stop.Memory) ⊎ (s ≡ stop.RigFault)) → (status_of r ≡ status.Memory) ⊎ (status_of r ≡ status.RigFault)
mirror_from_outside f refusal.Words c alone = absurd c
mirror_from_outside f (refusal.Stopped s) c alone = stopped_from_outside s (alone s (mirror_complete s (call_of f) c))

-- ---- the commands on images

unformatted_for_memory : (us : List UnitSpec) (s : Stop) (name : List ℕ) (old new : RigState) → Calm old.faults new.faults → CauseUnformatted us s name old new → s ≡ stop.Memory
unformatted_for_memory us stop.RigFault name old new calm c = absurd (never_rose old.faults new.faults calm c.0)
unformatted_for_memory us stop.Memory name old new calm c = refl
unformatted_for_memory us _ name old new calm c = absurd c

unmigrated_for_memory : (s : Stop) (image name : List ℕ) (old new : RigState) → old.image ≡ Some image → head_fault (head_of image) ≡ None → Calm old.faults new.faults → CauseUnmigrated s name old new → s ≡ stop.Memory
unmigrated_for_memory (stop.Image x) image name old new i h calm c = absurd (right_head image x name old new i c.1.image h c.0)
unmigrated_for_memory stop.RigFault image name old new i h calm c = absurd (never_rose old.faults new.faults calm c.0)
unmigrated_for_memory stop.Memory image name old new i h calm c = refl
unmigrated_for_memory _ image name old new i h calm c = absurd c

unscrubbed_for_memory : (s : Stop) (image name : List ℕ) (old new : RigState) → old.image ≡ Some image → head_fault (head_of image) ≡ None → Calm old.faults new.faults → CauseUnscrubbed s name old new → s ≡ stop.Memory
unscrubbed_for_memory (stop.Image x) image name old new i h calm c = absurd (right_head image x name old new i c.1.image h c.0)
unscrubbed_for_memory (stop.BadCapacity dev) image name old new i h calm c = absurd (told_is_good image name dev old new i c)
unscrubbed_for_memory stop.RigFault image name old new i h calm c = absurd (never_rose old.faults new.faults calm c.0)
unscrubbed_for_memory stop.Memory image name old new i h calm c = refl
unscrubbed_for_memory _ image name old new i h calm c = absurd c

wants_memory : (s : Stop) → s ≡ stop.Memory → status_of (refusal.Stopped s) ≡ status.Memory
wants_memory s e = ap (λ (x : Stop). status_of (refusal.Stopped x)) e

-- a refusal by a cause that nothing but want of memory has
by_memory : (P : Stop → List ℕ → RigState → RigState → Type 0) (r : Refusal) (f : Facts) → ((s : Stop) → P s (image_in f.words) f.rig f.rig_after → s ≡ stop.Memory) → ByCause P r f → status_of r ≡ status.Memory
by_memory P refusal.Words f alone c = absurd c
by_memory P (refusal.Stopped s) f alone c = wants_memory s (alone s c.0)

-- words of `nvme`, lines that fit and a right image are refused for want of memory alone
uncommanded_for_memory : (r : Refusal) (f : Facts) → ((s : Stop) → CauseNotDone s (image_in f.words) f.left f.left_after f.reads f.reads_after f.rig f.rig_after → s ≡ stop.Memory) → CauseNotCommanded r f → status_of r ≡ status.Memory
uncommanded_for_memory refusal.Words f alone c = absurd c
uncommanded_for_memory (refusal.Stopped s) f alone c = wants_memory s (alone s c)

-- ---- all commands

completes : (c : Option Command) (f : Facts) (v : Verdict Refusal (work_of c).Yield) → Cause dix (work_of c) v f → (work_of c).Answers f (verdict_status dix (work_of c) v)
completes None f (Refused r) c = ap status_of c.0
completes None f (Done x) c = absurd x
completes (Some Run) f (Refused r) c = λ h. not_run f r c h
completes (Some Run) f (Done run) c = λ h. inl (done_is (has_bad run.stack.replies.items))
completes (Some Trace) f (Refused r) c = λ h. not_run f r c h
completes (Some Trace) f (Done x) c = λ h. inl (done_is (has_bad x.0.stack.replies.items))
completes (Some (Format us)) f (Refused r) c = λ h. inr (by_memory (CauseUnformatted us) r f (λ s d. unformatted_for_memory us s (image_in f.words) f.rig f.rig_after h d) c)
completes (Some (Format us)) f (Done x) c = λ h. inl refl
completes (Some Migrate) f (Refused r) c = λ h. inr (by_memory CauseUnmigrated r f (λ s d. unmigrated_for_memory s h.image (image_in f.words) f.rig f.rig_after h.image_is h.head h.calm d) c)
completes (Some Migrate) f (Done n) c = λ h. inl refl
completes (Some Mirror) f (Refused r) c = λ h. inr (mirror_from_outside f r c (λ s whole. whole h.text h.image h.script h.text_is h.language h.image_is h.head h.volume h.lines h.calm))
completes (Some Mirror) f (Done run) c = λ h. inl (done_is (is_any_lost run.mirror.replies.items run.repair.lost))
completes (Some Scrub) f (Refused r) c = λ h. inr (by_memory CauseUnscrubbed r f (λ s d. unscrubbed_for_memory s h.image (image_in f.words) f.rig f.rig_after h.image_is h.head h.calm d) c)
completes (Some Scrub) f (Done x) c = λ h. inl (done_is (has_some x.1))
completes (Some Nvme) f (Refused r) c = λ h.
    inr (uncommanded_for_memory r f (λ x d. spared_alone x (image_in f.words) f.left f.left_after f.reads f.reads_after f.rig f.rig_after h.text h.image h.lines h.text_is h.language h.image_is h.head h.fit h.reads h.calm d) c)
completes (Some Nvme) f (Done x) c = λ h. inl (done_is x.0)
completes (Some (Modes ty)) f (Refused r) c = inr (ap status_of c.0)
completes (Some (Modes ty)) f (Done x) c = inl refl
completes (Some (Big n seed)) f (Refused r) c = inr (ap status_of c.0)
completes (Some (Big n seed)) f (Done b) c = inl (ap done_status c.0.not_bad)

pub carried : (f : Facts) (taken taken' : Option (List ℕ)) (o n : ℕ) (result : Status) → Ended f taken taken' o n result → Carries f taken taken' o n result
carried f taken taken' o n result ended = record {
  ended = ended;
  complete = completed dix (work_of (command_in f.words)) f taken taken' o n result (λ v c. completes (command_in f.words) f v c) ended;
  opens = opens (command_in f.words) f ended.verdict ended.cause;
}

-- a call of words that name this
pub carried_by : (c : Option Command) (f : Facts) (taken taken' : Option (List ℕ)) (o n : ℕ) (result : Status) → command_in f.words ≡ c → EndedAs dix (work_of c) f taken taken' o n result → Carries f taken taken' o n result
carried_by c f taken taken' o n result named ended = carried f taken taken' o n result (subst (λ (x : Option Command). EndedAs dix (work_of x) f taken taken' o n result) (sym named) ended)
