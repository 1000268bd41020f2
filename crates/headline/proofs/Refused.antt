-- A call over bytes in memory that is refused, and not for want of memory, names the first fault.
use Rattle.std.proofs.Common.{ℕ, ◌≡◌, inl, inr, List, [], Option, Some, None, Ok, refl, sym, ap, ◌∙◌}
use Rattle.dix_base.specs.Told.{Calm}
use Rattle.dix_base.proofs.Counts.{never_rose}
use Rattle.rig_api.specs.Head.{head_fault, head_of}
use Rattle.rig_api.specs.State.{RigState}
use Rattle.volume_table.specs.Faults.{table_fault}
use Rattle.script_text.specs.Bindings.{binding_fault}
use Rattle.script_text.specs.Language.{script_in}
use Rattle.script_text.specs.declared.fault.ScriptFault.{ScriptFault}
use Rattle.script_text.specs.declared.script.Script.{Script}
use Rattle.mirror_script.specs.MirrorFaults.{mirror_fault}
use Rattle.call_verdict.specs.Words.{image_in}
use Rattle.call_refusal.specs.declared.refusal.Refusal.{Refusal as Stop}
use Rattle.call_refusal.specs.declared.refusal.Refusal.TheVariants as stop
use Rattle.call_refusal.specs.Texts.{refusal_text as stop_text}
use Rattle.call_verdict.specs.Verdicts.{Cause, Done, EndedAs, Refused, Verdict, stop_status}
use Rattle.call_verdict.specs.declared.status.Status.{Status}
use Rattle.call_verdict.specs.declared.status.Status.TheVariants as status
use Rattle.image_laws.specs.Passed.{CauseRefused, CauseStopped, CauseUntaken, Finished, HasRun, HasTable, devices_of, table_over}
use Rattle.image_laws.proofs.Passed.{head_is, held_fault, kept_asked, over_asked, read_is, right_asked, right_made, told_is_good, unbound_is, volume_is}
use Rattle.dix_run.specs.Commands.{mirror_work, run_work}
use Rattle.dix_run.specs.Headline.{Carries}
use Rattle.dix_run.specs.Passed.{CauseRefused as CauseUnmirrored, CauseStopped as CauseMirrorStopped, HasMirrored, Mirrored}
use Rattle.dix_run.specs.Verdict.{CauseNotMirrored, CauseNotRun, Facts, call_of, dix}
use Rattle.dix_run.specs.declared.refusal.Refusal.{Refusal}
use Rattle.dix_run.specs.declared.refusal.Refusal.TheVariants as refusal
use Rattle.headline.specs.Headline.{IsRefused, by_head, by_lines, by_text, by_volume, first_fault, lines_fault, volume_over}
use Rattle.headline.specs.declared.way.Way.{Way}
use Rattle.headline.specs.declared.way.Way.TheVariants.{Mirror, Run}
use Rattle.headline.proofs.Coming.{HasWritten, IsCalled, ended_mirror, ended_run, no_rise, wrote}

-- ---- how far a call comes

at_head : (way : Way) (image text : List ℕ) (script : Script) → script_in text ≡ Ok script → first_fault way image text ≡ by_head way script image (head_fault (head_of image))
at_head way image text script r = ap (by_text way image) r

at_volume : (way : Way) (image text : List ℕ) (script : Script) → script_in text ≡ Ok script → head_fault (head_of image) ≡ None → first_fault way image text ≡ by_volume way script image (table_fault script.entries (devices_of image) script.block)
at_volume way image text script r h = at_head way image text script r ∙ ap (by_head way script image) h

at_lines : (way : Way) (image text : List ℕ) (script : Script) → script_in text ≡ Ok script → head_fault (head_of image) ≡ None → table_fault script.entries (devices_of image) script.block ≡ None → first_fault way image text ≡ by_lines (lines_fault way script image)
at_lines way image text script r h t = at_volume way image text script r h ∙ ap (by_volume way script image) t

-- ---- what a refusal says

-- The refusal is for the first fault, and the image is as it was.
record IsFirst (way : Way) (image text : List ℕ) (s : Stop) (old new : RigState) : Type 0 where
  first : first_fault way image text ≡ Some s
  kept : new.image ≡ old.image

untaken : (way : Way) (image text : List ℕ) (f : Facts) (s : Stop) → f.left ≡ Some text → Calm f.reads f.reads_after → (stop_status s ≡ status.Memory → ⊥) → CauseUntaken s f.left f.left_after f.reads f.reads_after → first_fault way image text ≡ Some s
untaken way image text f (stop.Script bad) l calm m c = ap (by_text way image) (held_fault text bad f.left f.left_after l c)
untaken way image text f stop.Memory l calm m c = absurd (m refl)
untaken way image text f stop.ReadFault l calm m c = absurd (never_rose f.reads f.reads_after calm c.0)
untaken way image text f _ l calm m c = absurd c

-- a script that was read, and isn't run
stopped : (image text : List ℕ) (script : Script) (name : List ℕ) (old new : RigState) (s : Stop) → script_in text ≡ Ok script → old.image ≡ Some image → new.faults ≡ 0 → (stop_status s ≡ status.Memory → ⊥) → CauseStopped s script name old new → IsFirst Run image text s old new
stopped image text script name old new (stop.Script bad) r i z m c = record {
  first = at_lines Run image text script r (right_asked image name c.devices old new i c.asked) (right_made image script name c.devices c.table.entries old new i c.asked c.made.entries c.made.made.right) ∙ ap by_lines (unbound_is image script bad name old new i c);
  kept = kept_asked name c.devices old new c.asked;
}
stopped image text script name old new (stop.Image x) r i z m c = record { first = at_head Run image text script r ∙ ap (by_head Run script image) (head_is image x name old new i c.1.image c.0); kept = c.1.image }
stopped image text script name old new (stop.BadCapacity dev) r i z m c = absurd (told_is_good image name dev old new i c)
stopped image text script name old new (stop.Volume entry kind) r i z m c = record {
  first = at_volume Run image text script r (right_asked image name c.devices old new i c.asked) ∙ ap (by_volume Run script image) (volume_is image script entry kind name old new i c);
  kept = kept_asked name c.devices old new c.asked;
}
stopped image text script name old new stop.RigFault r i z m c = absurd (no_rise old.faults new.faults z c.0)
stopped image text script name old new stop.Memory r i z m c = absurd (m refl)
stopped image text script name old new stop.ReadFault r i z m c = absurd c

-- or isn't run on a mirror
unmirrored : (image text : List ℕ) (script : Script) (name : List ℕ) (old new : RigState) (s : Stop) → script_in text ≡ Ok script → old.image ≡ Some image → new.faults ≡ 0 → (stop_status s ≡ status.Memory → ⊥) → CauseMirrorStopped s script name old new → IsFirst Mirror image text s old new
unmirrored image text script name old new (stop.Script bad) r i z m c = record {
  first = at_lines Mirror image text script r (right_asked image name c.devices old new i c.asked) (right_made image script name c.devices c.table.entries old new i c.asked c.made.entries c.made.made.right)
      ∙ ap by_lines (over_asked (mirror_fault script) image script name c.devices c.table old new i c.asked c.made ∙ c.bound);
  kept = kept_asked name c.devices old new c.asked;
}
unmirrored image text script name old new (stop.Image x) r i z m c = record { first = at_head Mirror image text script r ∙ ap (by_head Mirror script image) (head_is image x name old new i c.1.image c.0); kept = c.1.image }
unmirrored image text script name old new (stop.BadCapacity dev) r i z m c = absurd (told_is_good image name dev old new i c)
unmirrored image text script name old new (stop.Volume entry kind) r i z m c = record {
  first = at_volume Mirror image text script r (right_asked image name c.devices old new i c.asked) ∙ ap (by_volume Mirror script image) (volume_is image script entry kind name old new i c);
  kept = kept_asked name c.devices old new c.asked;
}
unmirrored image text script name old new stop.RigFault r i z m c = absurd (no_rise old.faults new.faults z c.0)
unmirrored image text script name old new stop.Memory r i z m c = absurd (m refl)
unmirrored image text script name old new stop.ReadFault r i z m c = absurd c

run_first : (image text image' : List ℕ) (f : Facts) (s : Stop) → IsCalled Run image text image' f → (stop_status s ≡ status.Memory → ⊥) → CauseRefused s (call_of f) → IsFirst Run image text s f.rig f.rig_after
run_first image text image' f s called m (inl c) = record { first = untaken Run image text f s called.text_is called.reads m c.0; kept = ap (λ (r : RigState). r.image) c.1 }
run_first image text image' f s called m (inr c) = stopped image text c.0 (image_in f.words) f.rig f.rig_after s (read_is text c.0 f.left f.left_after f.reads f.reads_after called.text_is c.1) called.image_is called.faults m c.2

mirror_first : (image text image' : List ℕ) (f : Facts) (s : Stop) → IsCalled Mirror image text image' f → (stop_status s ≡ status.Memory → ⊥) → CauseUnmirrored s (call_of f) → IsFirst Mirror image text s f.rig f.rig_after
mirror_first image text image' f s called m (inl c) = record { first = untaken Mirror image text f s called.text_is called.reads m c.0; kept = ap (λ (r : RigState). r.image) c.1 }
mirror_first image text image' f s called m (inr c) = unmirrored image text c.0 (image_in f.words) f.rig f.rig_after s (read_is text c.0 f.left f.left_after f.reads f.reads_after called.text_is c.1) called.image_is called.faults m c.2

-- ---- a script that was run has no fault

none_run : (image text : List ℕ) (run : Finished) (script : Script) (name : List ℕ) (old new : RigState) → script_in text ≡ Ok script → old.image ≡ Some image → HasRun run script name old new → first_fault Run image text ≡ None
none_run image text run script name old new r i h =
    at_lines Run image text script r (right_asked image name h.devices old h.told i h.asked) (right_made image script name h.devices h.table.entries old h.told i h.asked h.made.entries h.made.made.right)
    ∙ ap by_lines (over_asked (binding_fault script) image script name h.devices h.table old h.told i h.asked h.made ∙ h.bound)

none_mirrored : (image text : List ℕ) (run : Mirrored) (script : Script) (name : List ℕ) (old new : RigState) → script_in text ≡ Ok script → old.image ≡ Some image → HasMirrored run script name old new → first_fault Mirror image text ≡ None
none_mirrored image text run script name old new r i h =
    let table = table_over script.entries h.devices in
    let made : HasTable script h.devices table = record { entries = refl; ty = refl; made = h.bound.made } in
    at_lines Mirror image text script r (right_asked image name h.devices old h.told i h.asked) (right_made image script name h.devices script.entries old h.told i h.asked refl h.bound.made.right)
    ∙ ap by_lines (over_asked (mirror_fault script) image script name h.devices table old h.told i h.asked made ∙ h.bound.bound)

-- ---- the call

same_stop : (s why : Stop) (first : Option Stop) → first ≡ Some s → first ≡ Some why → s ≡ why
same_stop s why first a b = let both : ◌≡◌ {A = Option Stop} (Some s) (Some why) = sym a ∙ b in cc

same_image : (image image' : List ℕ) (old new : Option (List ℕ)) → old ≡ Some image → new ≡ Some image' → new ≡ old → image' ≡ image
same_image image image' old new i k e = let both : ◌≡◌ {A = Option (List ℕ)} (Some image') (Some image) = sym k ∙ e ∙ i in cc

no_first : (why : Stop) (first : Option Stop) → first ≡ None → first ≡ Some why → ⊥
no_first why first a b = let both : ◌≡◌ {A = Option Stop} None (Some why) = sym a ∙ b in absurd (cc)

-- what is written of it
refused_as : (way : Way) (why s : Stop) (image text image' text' : List ℕ) (f : Facts) (result : Status) → IsCalled way image text image' f → first_fault way image text ≡ Some why → result ≡ stop_status s → text' ≡ stop_text s → IsFirst way image text s f.rig f.rig_after → IsRefused why image result text' image'
refused_as way why s image text image' text' f result called first st tx is =
    let same : s ≡ why = same_stop s why (first_fault way image text) is.first first in
    record {
      status_is = st ∙ ap stop_status same;
      text_is = tx ∙ ap stop_text same;
      image_is = same_image image image' f.rig.image f.rig_after.image called.image_is called.left_is is.kept;
    }

pub refused_run : (why : Stop) (image text image' text' : List ℕ) (f : Facts) (o n : ℕ) (result : Status) → IsCalled Run image text image' f → (result ≡ status.Memory → ⊥) → (result ≡ status.WriteFault → ⊥) → Carries f (Some []) (Some text') o n result → first_fault Run image text ≡ Some why →
    IsRefused why image result text' image'
refused_run why image text image' text' f o n result called memory sink carries first = by ended.verdict ended.cause (wrote run_work ended.verdict text' o n result sink ended.written) where
  ended : EndedAs dix run_work f (Some []) (Some text') o n result
  ended = ended_run image text image' text' f o n result called carries

  by_reason : (r : Refusal) → CauseNotRun r f → HasWritten run_work (Refused r) result text' → IsRefused why image result text' image'
  by_reason refusal.Words cause w = absurd cause
  by_reason (refusal.Stopped s) cause w = refused_as Run why s image text image' text' f result called first w.status_is w.text_is (run_first image text image' f s called (λ e. memory (w.status_is ∙ e)) cause)

  by : (v : Verdict Refusal Finished) → Cause dix run_work v f → HasWritten run_work v result text' → IsRefused why image result text' image'
  by (Refused r) cause w = by_reason r cause w
  by (Done run) cause w =
      absurd (no_first why (first_fault Run image text) (none_run image text run cause.script (image_in f.words) f.rig f.rig_after (read_is text cause.script f.left f.left_after f.reads f.reads_after called.text_is cause.read) called.image_is cause.ran) first)

pub refused_mirror : (why : Stop) (image text image' text' : List ℕ) (f : Facts) (o n : ℕ) (result : Status) → IsCalled Mirror image text image' f → (result ≡ status.Memory → ⊥) → (result ≡ status.WriteFault → ⊥) → Carries f (Some []) (Some text') o n result → first_fault Mirror image text ≡ Some why →
    IsRefused why image result text' image'
refused_mirror why image text image' text' f o n result called memory sink carries first = by ended.verdict ended.cause (wrote mirror_work ended.verdict text' o n result sink ended.written) where
  ended : EndedAs dix mirror_work f (Some []) (Some text') o n result
  ended = ended_mirror image text image' text' f o n result called carries

  by_reason : (r : Refusal) → CauseNotMirrored r f → HasWritten mirror_work (Refused r) result text' → IsRefused why image result text' image'
  by_reason refusal.Words cause w = absurd cause
  by_reason (refusal.Stopped s) cause w = refused_as Mirror why s image text image' text' f result called first w.status_is w.text_is (mirror_first image text image' f s called (λ e. memory (w.status_is ∙ e)) cause)

  by : (v : Verdict Refusal Mirrored) → Cause dix mirror_work v f → HasWritten mirror_work v result text' → IsRefused why image result text' image'
  by (Refused r) cause w = by_reason r cause w
  by (Done run) cause w =
      absurd (no_first why (first_fault Mirror image text) (none_mirrored image text run cause.script (image_in f.words) f.rig f.rig_after (read_is text cause.script f.left f.left_after f.reads f.reads_after called.text_is cause.read) called.image_is cause.ran) first)
