-- The rig is opened at most once in a call.
use Rattle.std.proofs.Common.{ℕ, ◌≡◌, ◌⊎◌, inl, inr, List, Option, Some, None, ap, ◌∙◌}
use Rattle.rig_discovery.specs.Openings.{HasOpened, OpenedOnce}
use Rattle.call_refusal.specs.Causes.{CauseUntold}
use Rattle.image_commands.specs.Causes.{CauseUnformatted, CauseUnmigrated, CauseUnscrubbed}
use Rattle.nvme_command.proofs.Completes.{done_opens, not_done_opens}
use Rattle.rig_api.specs.Telling.{Standing, Stayed}
use Rattle.rig_api.specs.State.{RigState}
use Rattle.rig_api.specs.declared.units.UnitSpec.{UnitSpec}
use Rattle.call_verdict.specs.Words.{image_in}
use Rattle.dix_run.specs.declared.command.Command.{Command}
use Rattle.dix_run.specs.declared.command.Command.TheVariants.{Run, Trace, Format, Migrate, Mirror, Scrub, Nvme, Modes, Big}
use Rattle.script_text.specs.declared.script.Script.{Script}
use Rattle.mirror_command.specs.Verdict.{CauseStopped as CauseMidway, HasMirroredSource, StoppedMidway}
use Rattle.mirror_command.specs.declared.mirrored.Mirrored.{Mirrored}
use Rattle.run_command.specs.Verdict.{CauseRefused, CauseStopped, HasRunSource, StoppedShort}
use Rattle.call_refusal.specs.declared.refusal.Refusal.{Refusal as Stop}
use Rattle.call_refusal.specs.declared.refusal.Refusal.TheVariants as stop
use Rattle.run_command.specs.declared.verdict.Finished.{Finished}
use Rattle.dix_run.specs.Commands.{work_of}
use Rattle.dix_run.specs.Headline.{OpensOnce}
use Rattle.call_verdict.specs.Verdicts.{Cause, Done, Refused, Verdict}
use Rattle.dix_run.specs.Verdict.{ByCause, CauseNotCommanded, CauseNotMirrored, CauseNotRun, Facts, HasNoCommand, WantsMemory, call_of, dix}
use Rattle.dix_run.specs.declared.refusal.Refusal.{Refusal}
use Rattle.dix_run.specs.declared.refusal.Refusal.TheVariants as refusal

stayed : (a b : RigState) → b ≡ a → Stayed a.standing b.standing
stayed a b e = (ap (λ (v : RigState). v.standing.openings) e, ap (λ (v : RigState). v.standing.name) e)

opened_on : (name : List ℕ) (old between told new : RigState) → HasOpened name old between told → new.standing ≡ told.standing → OpenedOnce name old.standing new.standing
opened_on name old between told new o same =
    let to : new.standing ≡ between.standing = same ∙ o.standing in
    inr (ap (λ (s : Standing). s.openings) to ∙ o.opened.opened.0, ap (λ (s : Standing). s.name) to ∙ o.opened.opened.1)

opened_still : (name : List ℕ) (old between new : RigState) → HasOpened name old between new → OpenedOnce name old.standing new.standing
opened_still name old between new o = inr (ap (λ (s : Standing). s.openings) o.standing ∙ o.opened.opened.0, ap (λ (s : Standing). s.name) o.standing ∙ o.opened.opened.1)

untold_opens : (s : Stop) (name : List ℕ) (old new : RigState) → CauseUntold s name old new → OpenedOnce name old.standing new.standing
untold_opens (stop.Image f) name old new c = inr c.0.opened
untold_opens (stop.BadCapacity dev) name old new c = opened_still name old c.between new c.since
untold_opens stop.RigFault name old new c = inr c.1
untold_opens stop.Memory name old new c = c.1
untold_opens _ name old new c = absurd c

short_opens : (name : List ℕ) (old new : RigState) → StoppedShort name old new → OpenedOnce name old.standing new.standing
short_opens name old new (inl c) = c.1
short_opens name old new (inr c) = opened_still name old c.1.told.between new c.1.told.since

stopped_opens : (s : Stop) (script : Script) (name : List ℕ) (old new : RigState) → CauseStopped s script name old new → OpenedOnce name old.standing new.standing
stopped_opens (stop.Script bad) script name old new c = opened_still name old c.asked.told.between new c.asked.told.since
stopped_opens (stop.Volume entry kind) script name old new c = opened_still name old c.asked.told.between new c.asked.told.since
stopped_opens stop.Memory script name old new c = short_opens name old new c
stopped_opens s script name old new c = untold_opens s name old new c

refused_opens : (f : Facts) (s : Stop) → CauseRefused s (call_of f) → OpensOnce f
refused_opens f s (inl c) = inl (stayed f.rig f.rig_after c.1)
refused_opens f s (inr c) = stopped_opens s c.0 (image_in f.words) f.rig f.rig_after c.2

not_run_opens : (f : Facts) (r : Refusal) → CauseNotRun r f → OpensOnce f
not_run_opens f refusal.Words c = absurd c
not_run_opens f (refusal.Stopped s) c = refused_opens f s c

run_opens : (f : Facts) (run : Finished) → HasRunSource run (call_of f) → OpensOnce f
run_opens f run r = opened_on (image_in f.words) f.rig r.ran.asked.told.between r.ran.told f.rig_after r.ran.asked.told.since r.ran.followed.any_rig.goes.standing

-- a script on a mirror that stopped, maybe in its middle
midway_opens : (s : Script) (name : List ℕ) (old new : RigState) → StoppedShort name old new ⊎ StoppedMidway s name old new → OpenedOnce name old.standing new.standing
midway_opens s name old new (inl c) = short_opens name old new c
midway_opens s name old new (inr c) = opened_on name old c.asked.told.between c.told new c.asked.told.since (c.broke.under_way.standing ∙ c.broke.served.stretches.standing)

unmirrored_opens : (s : Stop) (script : Script) (name : List ℕ) (old new : RigState) → CauseMidway s script name old new → OpenedOnce name old.standing new.standing
unmirrored_opens (stop.Script bad) script name old new c = opened_still name old c.asked.told.between new c.asked.told.since
unmirrored_opens (stop.Volume entry kind) script name old new c = opened_still name old c.asked.told.between new c.asked.told.since
unmirrored_opens stop.Memory script name old new c = midway_opens script name old new c
unmirrored_opens s script name old new c = untold_opens s name old new c

not_mirrored_opens : (f : Facts) (r : Refusal) → CauseNotMirrored r f → OpensOnce f
not_mirrored_opens f refusal.Words c = absurd c
not_mirrored_opens f (refusal.Stopped s) (inl c) = inl (stayed f.rig f.rig_after c.1)
not_mirrored_opens f (refusal.Stopped s) (inr c) = unmirrored_opens s c.0 (image_in f.words) f.rig f.rig_after c.2

mirror_opens : (f : Facts) (run : Mirrored) → HasMirroredSource run (call_of f) → OpensOnce f
mirror_opens f run r = opened_on (image_in f.words) f.rig r.ran.asked.told.between r.ran.told f.rig_after r.ran.asked.told.since r.ran.ended.stretches.standing

format_opens : (us : List UnitSpec) (s : Stop) (name : List ℕ) (old new : RigState) → CauseUnformatted us s name old new → OpenedOnce name old.standing new.standing
format_opens us stop.RigFault name old new c = inr c.1
format_opens us stop.Memory name old new c = c.0
format_opens us _ name old new c = absurd c

migrate_opens : (s : Stop) (name : List ℕ) (old new : RigState) → CauseUnmigrated s name old new → OpenedOnce name old.standing new.standing
migrate_opens (stop.Image f) name old new c = inr c.0.opened
migrate_opens stop.RigFault name old new c = inr c.1
migrate_opens stop.Memory name old new c = c.1
migrate_opens _ name old new c = absurd c

spared_opens : (name : List ℕ) (old new : RigState) → CauseUnscrubbed stop.Memory name old new → OpenedOnce name old.standing new.standing
spared_opens name old new (inl c) = c.1
spared_opens name old new (inr c) = opened_on name old c.discovered.between c.told new c.discovered.since c.standing

scrub_opens : (s : Stop) (name : List ℕ) (old new : RigState) → CauseUnscrubbed s name old new → OpenedOnce name old.standing new.standing
scrub_opens stop.Memory name old new c = spared_opens name old new c
scrub_opens s name old new c = untold_opens s name old new c

by_opens : (P : Stop → List ℕ → RigState → RigState → Type 0) (r : Refusal) (f : Facts) → ((s : Stop) → P s (image_in f.words) f.rig f.rig_after → OpensOnce f) → ByCause P r f → OpensOnce f
by_opens P refusal.Words f each c = absurd c
by_opens P (refusal.Stopped s) f each c = each s c.0

nvme_opens : (r : Refusal) (f : Facts) → CauseNotCommanded r f → OpensOnce f
nvme_opens refusal.Words f c = absurd c
nvme_opens (refusal.Stopped s) f c = not_done_opens s (image_in f.words) f.left f.left_after f.reads f.reads_after f.rig f.rig_after c

none_opens : (f : Facts) (r : Refusal) → HasNoCommand r f → OpensOnce f
none_opens f r c = inl (stayed f.rig f.rig_after c.1)

wanting_opens : (f : Facts) (r : Refusal) → WantsMemory r f → OpensOnce f
wanting_opens f r c = inl (stayed f.rig f.rig_after c.1)

-- by what the words say
pub opens : (c : Option Command) (f : Facts) (v : Verdict Refusal (work_of c).Yield) → Cause dix (work_of c) v f → OpensOnce f
opens None f (Refused r) c = none_opens f r c
opens None f (Done x) c = absurd x
opens (Some Run) f (Refused r) c = not_run_opens f r c
opens (Some Run) f (Done run) c = run_opens f run c
opens (Some Trace) f (Refused r) c = not_run_opens f r c
opens (Some Trace) f (Done x) c = run_opens f x.0 c.ran
opens (Some (Format us)) f (Refused r) c = by_opens (CauseUnformatted us) r f (λ s d. format_opens us s (image_in f.words) f.rig f.rig_after d) c
opens (Some (Format us)) f (Done x) c = inr c.0.opened
opens (Some Migrate) f (Refused r) c = by_opens CauseUnmigrated r f (λ s d. migrate_opens s (image_in f.words) f.rig f.rig_after d) c
opens (Some Migrate) f (Done n) c = inr c.0.opened
opens (Some Mirror) f (Refused r) c = not_mirrored_opens f r c
opens (Some Mirror) f (Done run) c = mirror_opens f run c
opens (Some Scrub) f (Refused r) c = by_opens CauseUnscrubbed r f (λ s d. scrub_opens s (image_in f.words) f.rig f.rig_after d) c
opens (Some Scrub) f (Done x) c = opened_on (image_in f.words) f.rig c.0.discovered.between c.0.told f.rig_after c.0.discovered.since c.0.standing
opens (Some Nvme) f (Refused r) c = nvme_opens r f c
opens (Some Nvme) f (Done x) c = done_opens (image_in f.words) x.1 x.0 f.left f.left_after f.reads f.reads_after f.rig f.rig_after c
opens (Some (Modes ty)) f (Refused r) c = wanting_opens f r c
opens (Some (Modes ty)) f (Done x) c = inl (stayed f.rig f.rig_after c.1)
opens (Some (Big n seed)) f (Refused r) c = wanting_opens f r c
opens (Some (Big n seed)) f (Done b) c = inl (stayed f.rig f.rig_after c.1)
