-- A call over bytes in memory, in which nothing is at fault, comes to a run.
use Rattle.std.proofs.Common.{◌≡◌, ◌<◌, ◌⊎◌, inl, inr, ℕ, List, [], Some, None, ap, subst, ◌∙◌, arith}
use Rattle.std.specs.Prelude.{All, Option}
use Rattle.dix_base.specs.Told.{Calm, Rose}
use Rattle.dix_base.proofs.Counts.{never_rose}
use Rattle.rig_api.specs.Head.{head_fault, head_of}
use Rattle.rig_api.specs.Telling.{IsStanding, units_told}
use Rattle.call_verdict.specs.Words.{image_in}
use Rattle.dix_run.specs.Grammar.{command_in}
use Rattle.dix_run.specs.declared.command.Command.{Command}
use Rattle.dix_run.specs.declared.command.Command.TheVariants as command
use Rattle.report_text.specs.Report.{report}
use Rattle.script_text.specs.declared.script.Script.{Script}
use Rattle.image_laws.proofs.Passed.{complete, same_script}
use Rattle.image_laws.specs.Passed.{has_bad, CauseRefused, HasRun, Finished}
use Rattle.call_refusal.specs.declared.refusal.Refusal.{Refusal as Stop}
use Rattle.call_refusal.specs.declared.refusal.Refusal.TheVariants as stop
use Rattle.dix_run.proofs.Passed.{complete as mirror_complete}
use Rattle.dix_run.specs.Passed.{is_any_lost, mirror_text, CauseRefused as CauseUnmirrored, HasMirrored, Mirrored}
use Rattle.dix_run.specs.Commands.{mirror_work, run_work, work_of}
use Rattle.dix_run.specs.Headline.{Carries}
use Rattle.call_verdict.specs.Verdicts.{Cause, Done, EndedAs, Refused, Verdict, Work, Written, done_status, verdict_status, verdict_text}
use Rattle.dix_run.specs.Verdict.{CauseNotMirrored, CauseNotRun, Facts, call_of, dix, status_of}
use Rattle.dix_run.specs.declared.refusal.Refusal.{Refusal}
use Rattle.dix_run.specs.declared.refusal.Refusal.TheVariants as refusal
use Rattle.call_verdict.specs.declared.status.Status.{Status}
use Rattle.call_verdict.specs.declared.status.Status.TheVariants as status
use Rattle.headline.specs.Headline.{FitsImage, FitsMirror}
use Rattle.headline.specs.Words.{words_for}
use Rattle.headline.specs.declared.way.Way.{Way}
use Rattle.headline.specs.declared.way.Way.TheVariants.{Mirror, Run}

-- What is known of a call over bytes in memory: what it was handed, what it left, and that no store call and no read failed.
pub record IsCalled (way : Way) (image text image' : List ℕ) (f : Facts) : Type 0 where
  pub words : f.words ≡ words_for way
  pub text_is : f.left ≡ Some text
  pub reads : Calm f.reads f.reads_after
  pub image_is : f.rig.image ≡ Some image
  pub left_is : f.rig_after.image ≡ Some image'
  pub faults : f.rig_after.faults ≡ 0
  pub laid : f.rig_after.units ≡ units_told f.rig_after.standing f.rig_after.image
  pub standing : IsStanding f.rig_after.standing f.rig_after.image
  pub bytes : All (λ x. x < 256) image

-- ---- its text

-- What a call that came to an end wrote.
pub record HasWritten (w : Work dix) (v : Verdict Refusal w.Yield) (result : Status) (text' : List ℕ) : Type 0 where
  pub status_is : result ≡ verdict_status dix w v
  pub text_is : text' ≡ verdict_text dix w v

pub wrote : (w : Work dix) (v : Verdict Refusal w.Yield) (text' : List ℕ) (o n : ℕ) (result : Status) → (result ≡ status.WriteFault → ⊥) → Written (verdict_status dix w v) (verdict_text dix w v) (Some []) (Some text') o n result → HasWritten w v result text'
wrote w v text' o n result good (inl e) = record { status_is = e.0; text_is = e.1 }
wrote w v text' o n result good (inr e) = absurd (good e.0)

-- ---- it is refused for want of memory alone

pub no_rise : (o n : ℕ) → n ≡ 0 → Rose o n → ⊥
no_rise o n e r = never_rose o n (omega (arith, e), omega (arith, e)) r

no_rig_fault : (f : Facts) → f.rig_after.faults ≡ 0 → CauseRefused stop.RigFault (call_of f) → ⊥
no_rig_fault f e (inl c) = c.0
no_rig_fault f e (inr c) = no_rise f.rig.faults f.rig_after.faults e c.2.0

for_memory : (f : Facts) (s : Stop) → f.rig_after.faults ≡ 0 → CauseRefused s (call_of f) → (s ≡ stop.Memory) ⊎ (s ≡ stop.RigFault) → status_of (refusal.Stopped s) ≡ status.Memory
for_memory f s e c (inl m) = ap (λ (x : Stop). status_of (refusal.Stopped x)) m
for_memory f s e c (inr m) = absurd (no_rig_fault f e (subst (λ (x : Stop). CauseRefused x (call_of f)) m c))

refused_for_memory : (f : Facts) (r : Refusal) → f.rig_after.faults ≡ 0 → CauseNotRun r f → ((s : Stop) → CauseRefused s (call_of f) → (s ≡ stop.Memory) ⊎ (s ≡ stop.RigFault)) → status_of r ≡ status.Memory
refused_for_memory f refusal.Words e c alone = absurd c
refused_for_memory f (refusal.Stopped s) e c alone = for_memory f s e c (alone s c)

no_rig_fault_mirrored : (f : Facts) → f.rig_after.faults ≡ 0 → CauseUnmirrored stop.RigFault (call_of f) → ⊥
no_rig_fault_mirrored f e (inl c) = c.0
no_rig_fault_mirrored f e (inr c) = no_rise f.rig.faults f.rig_after.faults e c.2.0

for_memory_mirrored : (f : Facts) (s : Stop) → f.rig_after.faults ≡ 0 → CauseUnmirrored s (call_of f) → (s ≡ stop.Memory) ⊎ (s ≡ stop.RigFault) → status_of (refusal.Stopped s) ≡ status.Memory
for_memory_mirrored f s e c (inl m) = ap (λ (x : Stop). status_of (refusal.Stopped x)) m
for_memory_mirrored f s e c (inr m) = absurd (no_rig_fault_mirrored f e (subst (λ (x : Stop). CauseUnmirrored x (call_of f)) m c))

unmirrored_for_memory : (f : Facts) (r : Refusal) → f.rig_after.faults ≡ 0 → CauseNotMirrored r f → ((s : Stop) → CauseUnmirrored s (call_of f) → (s ≡ stop.Memory) ⊎ (s ≡ stop.RigFault)) → status_of r ≡ status.Memory
unmirrored_for_memory f refusal.Words e c alone = absurd c
unmirrored_for_memory f (refusal.Stopped s) e c alone = for_memory_mirrored f s e c (alone s c)

-- ---- a run

pub ended_run : (image text image' text' : List ℕ) (f : Facts) (o n : ℕ) (result : Status) → IsCalled Run image text image' f → Carries f (Some []) (Some text') o n result → EndedAs dix run_work f (Some []) (Some text') o n result
ended_run image text image' text' f o n result called carries = let named : command_in f.words ≡ Some command.Run = ap command_in called.words in subst (λ (c : Option Command). EndedAs dix (work_of c) f (Some []) (Some text') o n result) named carries.ended

-- The script was run, and status and text are those of its replies.
pub record CameToRun (script : Script) (f : Facts) (result : Status) (text' : List ℕ) : Type 0 where
  pub run : Finished
  pub ran : HasRun run script (image_in f.words) f.rig f.rig_after
  pub status_is : result ≡ done_status (has_bad run.stack.replies.items)
  pub text_is : text' ≡ report run.stack.replies.items

pub came_to_run : (script : Script) (image text image' text' : List ℕ) (f : Facts) (o n : ℕ) (result : Status) → IsCalled Run image text image' f → head_fault (head_of image) ≡ None → FitsImage script image text → (result ≡ status.Memory → ⊥) → (result ≡ status.WriteFault → ⊥) →
    Carries f (Some []) (Some text') o n result → CameToRun script f result text'
came_to_run script image text image' text' f o n result called right fits memory sink carries = by ended.verdict ended.cause (wrote run_work ended.verdict text' o n result sink ended.written) where
  ended : EndedAs dix run_work f (Some []) (Some text') o n result
  ended = ended_run image text image' text' f o n result called carries

  by : (v : Verdict Refusal Finished) → Cause dix run_work v f → HasWritten run_work v result text' → CameToRun script f result text'
  by (Refused r) cause w = absurd (memory (w.status_is ∙ refused_for_memory f r called.faults cause (λ s c. complete s (call_of f) c text image script called.text_is fits.language called.image_is right fits.volume fits.lines called.reads)))
  by (Done run) cause w = record {
    run = run;
    ran = subst (λ (s : Script). HasRun run s (image_in f.words) f.rig f.rig_after) (same_script (call_of f) text script cause.script called.text_is fits.language cause.read) cause.ran;
    status_is = w.status_is;
    text_is = w.text_is;
  }

-- ---- a run on a mirror

pub ended_mirror : (image text image' text' : List ℕ) (f : Facts) (o n : ℕ) (result : Status) → IsCalled Mirror image text image' f → Carries f (Some []) (Some text') o n result → EndedAs dix mirror_work f (Some []) (Some text') o n result
ended_mirror image text image' text' f o n result called carries = let named : command_in f.words ≡ Some command.Mirror = ap command_in called.words in subst (λ (c : Option Command). EndedAs dix (work_of c) f (Some []) (Some text') o n result) named carries.ended

pub record CameToMirror (script : Script) (f : Facts) (result : Status) (text' : List ℕ) : Type 0 where
  pub run : Mirrored
  pub ran : HasMirrored run script (image_in f.words) f.rig f.rig_after
  pub status_is : result ≡ done_status (is_any_lost run.mirror.replies.items run.repair.lost)
  pub text_is : text' ≡ mirror_text run.mirror.replies.items run.repair.repaired run.repair.lost

pub came_to_mirror : (script : Script) (image text image' text' : List ℕ) (f : Facts) (o n : ℕ) (result : Status) → IsCalled Mirror image text image' f → head_fault (head_of image) ≡ None → FitsMirror script image text → (result ≡ status.Memory → ⊥) → (result ≡ status.WriteFault → ⊥) →
    Carries f (Some []) (Some text') o n result → CameToMirror script f result text'
came_to_mirror script image text image' text' f o n result called right fits memory sink carries = by ended.verdict ended.cause (wrote mirror_work ended.verdict text' o n result sink ended.written) where
  ended : EndedAs dix mirror_work f (Some []) (Some text') o n result
  ended = ended_mirror image text image' text' f o n result called carries

  by : (v : Verdict Refusal Mirrored) → Cause dix mirror_work v f → HasWritten mirror_work v result text' → CameToMirror script f result text'
  by (Refused r) cause w = absurd (memory (w.status_is ∙ unmirrored_for_memory f r called.faults cause (λ s c. mirror_complete s (call_of f) c text image script called.text_is fits.language called.image_is right fits.volume fits.lines called.reads)))
  by (Done run) cause w = record {
    run = run;
    ran = subst (λ (s : Script). HasMirrored run s (image_in f.words) f.rig f.rig_after) (same_script (call_of f) text script cause.script called.text_is fits.language cause.read) cause.ran;
    status_is = w.status_is;
    text_is = w.text_is;
  }
