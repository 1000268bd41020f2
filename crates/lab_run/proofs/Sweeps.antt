-- What `sweep` comes to.
use Rattle.std.proofs.Common.{ℕ, ◌≡◌, ◌≤◌, ◌⊎◌, inl, inr, Bool, List, [], Option, Some, None, Result, Ok, Err, refl, sym, ap, subst, ◌∙◌}
use Rattle.call_refusal.specs.declared.refusal.Refusal.{Refusal as Stop}
use Rattle.call_refusal.specs.declared.refusal.Refusal.TheVariants as stop
use Rattle.call_verdict.specs.Verdicts.{Cause, Done, IsRun, Refused, RunsOrWants, Verdict, done_status, stop_status, verdict_status}
use Rattle.call_verdict.specs.declared.status.Status.{Status}
use Rattle.call_verdict.specs.declared.status.Status.TheVariants as status
use Rattle.call_verdict.proofs.Verdicts.{done_is}
use Rattle.dix_base.specs.Stores.{StoreState}
use Rattle.dix_base.specs.Told.{Calm, Rose}
use Rattle.dix_base.proofs.Counts.{never_rose}
use Rattle.flip_sweep.specs.Flips.{own_fault}
use Rattle.flip_sweep.specs.Swept.{CauseUnswept, Sweep as Swept, SweepEnds, has_unseen}
use Rattle.flip_sweep.specs.declared.sweep.Halt.{Halt}
use Rattle.flip_sweep.specs.declared.sweep.Halt.TheVariants as halt
use Rattle.flip_sweep.specs.declared.sweep.Unswept.{Unswept}
use Rattle.flip_sweep.specs.declared.sweep.Unswept.TheVariants as unswept
use Rattle.lab_run.specs.declared.command.Command.TheVariants.{Sweep}
use Rattle.rig_api.specs.State.{RigState}
use Rattle.rig_api.specs.declared.rig.RigFault.{RigFault}
use Rattle.script_text.specs.Bindings.{binding_fault}
use Rattle.script_text.specs.Language.{script_in}
use Rattle.script_text.specs.declared.fault.ScriptFault.{ScriptFault}
use Rattle.script_text.specs.declared.script.Script.{Script}
use Rattle.run_command.proofs.Completing.{untaken_for_memory}
use Rattle.run_command.specs.Verdict.{CauseUntaken, Facts as Call, HasRead, devices_of, table_over}
use Rattle.dix_base.proofs.Taking.{whole_text}
use Rattle.rig_api.specs.Image.{formatted}
use Rattle.rig_api.specs.declared.units.UnitSpec.{UnitSpec}
use Rattle.volume_table.specs.Faults.{table_fault}
use Rattle.volume_table.specs.declared.fault.VolumeFault.{VolumeFault}
use Rattle.volume_table.specs.declared.fault.VolumeFault.TheVariants.{At}
use Rattle.volume_table.specs.declared.fault.VolumeKind.{VolumeKind}
use Rattle.lab_run.specs.Breaking.{cut_status}
use Rattle.lab_run.specs.Calls.{Facts, on_input}
use Rattle.lab_run.specs.Commands.{Came}
use Rattle.lab_run.specs.Keeping.{ReadsSource}
use Rattle.lab_run.specs.Swept.{CauseNotSwept, HasSwept, Sweeping, halt_status, sweep_work, swept}
use Rattle.lab_run.specs.Telling.{RefusesInput}
use Rattle.lab_run.specs.Texts.{lab}
use Rattle.lab_run.specs.declared.refusal.Refusal.{Refusal}
use Rattle.lab_run.specs.declared.refusal.Refusal.TheVariants as refusal

-- ---- a call

reads_source : (words : List (List ℕ)) (h : StoreState) (left left' : Option (List ℕ)) (reads reads' : ℕ) (rig : RigState) (second : StoreState) → reads ≤ reads' → ReadsSource (on_input words h h left left' reads reads' rig second)
reads_source words h left left' reads reads' rig second k = record { source = k; rig = refl; first = refl; second = refl }

-- the source gave no script
pub untaken : (words : List (List ℕ)) (h : StoreState) (left left' : Option (List ℕ)) (reads reads' : ℕ) (rig : RigState) (second : StoreState) (byte : ℕ) (units : List UnitSpec) (r : Stop) (x : Refusal) (taken : Option (List ℕ)) (o : ℕ) →
    reads ≤ reads' → x ≡ refusal.Stopped r → CauseUntaken r left left' reads reads' → Came (Some (Sweep byte units)) (Err x) (on_input words h h left left' reads reads' rig second) taken taken o o
untaken words h left left' reads reads' rig second byte units r x taken o k e c =
    let f = on_input words h h left left' reads reads' rig second in
    record { comes = (subst (λ (y : Refusal). CauseNotSwept byte units y f) (sym e) (inl c), refl, refl); kept = reads_source words h left left' reads reads' rig second k }

-- its script isn't swept
pub unswept_so : (words : List (List ℕ)) (h : StoreState) (left left' : Option (List ℕ)) (reads reads' : ℕ) (rig : RigState) (second : StoreState) (byte : ℕ) (units : List UnitSpec) (script : Script) (r : Stop) (taken taken' : Option (List ℕ)) (o n : ℕ) →
    reads ≤ reads' → HasRead script left left' reads reads' → SweepEnds (Err (unswept.Stopped r)) (swept byte units script) o n taken taken' → Came (Some (Sweep byte units)) (Err (refusal.Stopped r)) (on_input words h h left left' reads reads' rig second) taken taken' o n
unswept_so words h left left' reads reads' rig second byte units script r taken taken' o n k read e =
    record { comes = (inr (script, read, e.0), e.1, e.2); kept = reads_source words h left left' reads reads' rig second k }

pub whole : (words : List (List ℕ)) (h : StoreState) (left left' : Option (List ℕ)) (reads reads' : ℕ) (rig : RigState) (second : StoreState) (byte : ℕ) (units : List UnitSpec) (script : Script) (unseen : Bool) (taken taken' : Option (List ℕ)) (o n : ℕ) (s : Status) →
    reads ≤ reads' → HasRead script left left' reads reads' → SweepEnds (Ok unseen) (swept byte units script) o n taken taken' → n ≡ o → s ≡ done_status unseen → Came (Some (Sweep byte units)) (Ok s) (on_input words h h left left' reads reads' rig second) taken taken' o n
whole words h left left' reads reads' rig second byte units script unseen taken taken' o n s k read e calm w = record {
  comes = (record { script = script; broken = None }, record { read = read; own = e.0 }, inl (w ∙ ap done_status e.1, e.2, calm));
  kept = reads_source words h left left' reads reads' rig second k;
}

pub halted : (words : List (List ℕ)) (h : StoreState) (left left' : Option (List ℕ)) (reads reads' : ℕ) (rig : RigState) (second : StoreState) (byte : ℕ) (units : List UnitSpec) (script : Script) (x : Halt) (taken taken' : Option (List ℕ)) (o n : ℕ) (s : Status) →
    reads ≤ reads' → HasRead script left left' reads reads' → SweepEnds (Err (unswept.Halted x)) (swept byte units script) o n taken taken' → ((x ≡ halt.Sink → ⊥) → n ≡ o) → s ≡ halt_status x → Came (Some (Sweep byte units)) (Ok s) (on_input words h h left left' reads reads' rig second) taken taken' o n
halted words h left left' reads reads' rig second byte units script halt.Memory taken taken' o n s k read e calm w = record {
  comes = (record { script = script; broken = Some e.1.0 }, record { read = read; own = e.0 }, inl (w, e.1.1, calm (λ z. absurd (cc))));
  kept = reads_source words h left left' reads reads' rig second k;
}
halted words h left left' reads reads' rig second byte units script halt.Sink taken taken' o n s k read e calm w = record {
  comes = (record { script = script; broken = None }, record { read = read; own = e.0 }, inr (w, e.1, e.2));
  kept = reads_source words h left left' reads reads' rig second k;
}

-- what a sweep ends in, by the units of the words
pub ends_over : (r : Result Bool Unswept) (byte : ℕ) (us units : List UnitSpec) (script : Script) (o n : ℕ) (taken taken' : Option (List ℕ)) → us ≡ units → SweepEnds r (swept byte us script) o n taken taken' → SweepEnds r (swept byte units script) o n taken taken'
ends_over r byte us units script o n taken taken' e h = subst (λ (x : List UnitSpec). SweepEnds r (swept byte x script) o n taken taken') e h

abbrev halt_in : Result Bool Unswept → Halt
halt_in (Err (unswept.Halted x)) = x
halt_in (Err (unswept.Stopped r)) = halt.Memory
halt_in (Ok unseen) = halt.Memory

-- a sweep that was halted, but not by the sink
pub not_by_sink : (u : Unswept) (x : Halt) → u ≡ unswept.Halted x → (x ≡ halt.Sink → ⊥) → ◌≡◌ {A = Result Bool Unswept} (Err u) (Err (unswept.Halted halt.Sink)) → ⊥
not_by_sink u x e calm h = calm (ap (λ (y : Unswept). halt_in (Err y)) (sym e) ∙ ap halt_in h)

pub as_ends : (u v : Unswept) (w : Swept) (o n : ℕ) (taken taken' : Option (List ℕ)) → u ≡ v → SweepEnds (Err u) w o n taken taken' → SweepEnds (Err v) w o n taken taken'
as_ends u v w o n taken taken' e h = subst (λ (x : Unswept). SweepEnds (Err x) w o n taken taken') e h

-- ---- texts that are told

source_unswept : (w : Swept) → CauseUnswept stop.ReadFault w → ⊥
source_unswept w (inl c) = let e : stop.ReadFault ≡ stop.Script c.0 = c.2 in absurd (cc)
source_unswept w (inr c) = c.1

read_same : (f : Facts) (text : List ℕ) (script found : Script) → f.left ≡ Some text → script_in text ≡ Ok script → HasRead found f.left f.left_after f.reads f.reads_after → found ≡ script
read_same f text script found l s read =
    let e : ◌≡◌ {A = Result Script ScriptFault} (Ok found) (Ok script) = sym read.reads ∙ ap script_in (whole_text read.text text f.left f.left_after l read.whole) ∙ s in
    cc

read_none : (f : Facts) (text : List ℕ) (bad : ScriptFault) (found : Script) → f.left ≡ Some text → script_in text ≡ Err bad → HasRead found f.left f.left_after f.reads f.reads_after → ⊥
read_none f text bad found l s read =
    let e : ◌≡◌ {A = Result Script ScriptFault} (Ok found) (Err bad) = sym read.reads ∙ ap script_in (whole_text read.text text f.left f.left_after l read.whole) ∙ s in
    absurd (cc)

-- a script that has a fault of its own
not_free : (script found : Script) (bad : ScriptFault) → found ≡ script → own_fault script ≡ Some bad → own_fault found ≡ None → ⊥
not_free script found bad same o n = let e : ◌≡◌ {A = Option ScriptFault} (Some bad) None = sym o ∙ ap own_fault (sym same) ∙ n in absurd (cc)

volume_free : (entry : ℕ) (kind : VolumeKind) (w : Swept) → CauseUnswept (stop.Volume entry kind) w → (own_fault w.script ≡ None) × (table_fault w.script.entries (devices_of (formatted w.units)) w.script.block ≡ Some (At entry kind))
volume_free entry kind w (inl c) = let e : stop.Volume entry kind ≡ stop.Script c.0 = c.2 in absurd (cc)
volume_free entry kind w (inr c) = c

-- a script over whose units nothing is at fault
pub record IsRightSweep (units : List UnitSpec) (f : Facts) : Type 0 where
  pub text : List ℕ
  pub script : Script
  pub left : f.left ≡ Some text
  pub reads : script_in text ≡ Ok script
  pub own : own_fault script ≡ None
  pub table : table_fault script.entries (devices_of (formatted units)) script.block ≡ None
  pub bound : binding_fault script (table_over script.entries (devices_of (formatted units))) (devices_of (formatted units)) ≡ None
  pub source : Calm f.reads f.reads_after

no_bad_volume : (units : List UnitSpec) (f : Facts) (i : IsRightSweep units f) (found : Script) (entry : ℕ) (kind : VolumeKind) → found ≡ i.script → table_fault found.entries (devices_of (formatted units)) found.block ≡ Some (At entry kind) → ⊥
no_bad_volume units f i found entry kind same b =
    let e : ◌≡◌ {A = Option VolumeFault} (Some (At entry kind)) None = sym b ∙ ap (λ (x : Script). table_fault x.entries (devices_of (formatted units)) x.block) same ∙ i.table in
    absurd (cc)

no_bad_line : (units : List UnitSpec) (f : Facts) (i : IsRightSweep units f) (found : Script) (bad : ScriptFault) → found ≡ i.script → binding_fault found (table_over found.entries (devices_of (formatted units))) (devices_of (formatted units)) ≡ Some bad → ⊥
no_bad_line units f i found bad same b =
    let e : ◌≡◌ {A = Option ScriptFault} (Some bad) None = sym b ∙ ap (λ (x : Script). binding_fault x (table_over x.entries (devices_of (formatted units))) (devices_of (formatted units))) same ∙ i.bound in
    absurd (cc)

not_stopped : (byte : ℕ) (units : List UnitSpec) (f : Facts) (i : IsRightSweep units f) (found : Script) (bad : ScriptFault) → found ≡ i.script → CauseUnswept (stop.Script bad) (swept byte units found) → ⊥
not_stopped byte units f i found bad same (inl c) = not_free found i.script c.0 (sym same) c.1 i.own
not_stopped byte units f i found bad same (inr c) = no_bad_line units f i found bad same c.1.1

-- what is said of the source, as a run says it
abbrev source_of : Facts → Call
source_of f = record { name = []; left = f.left; left_after = f.left_after; reads = f.reads; reads_after = f.reads_after; rig = f.rig; rig_after = f.rig_after }

-- ---- its answers

source_failed : (byte : ℕ) (units : List UnitSpec) (f : Facts) → Calm f.reads f.reads_after → CauseNotSwept byte units (refusal.Stopped stop.ReadFault) f → ⊥
source_failed byte units f k (inl c) = never_rose f.reads f.reads_after k c.0
source_failed byte units f k (inr c) = source_unswept (swept byte units c.0) c.2

image_unswept : (x : RigFault) (w : Swept) → CauseUnswept (stop.Image x) w → ⊥
image_unswept x w (inl c) = let e : stop.Image x ≡ stop.Script c.0 = c.2 in absurd (cc)
image_unswept x w (inr c) = c.1

device_unswept : (dev : ℕ) (w : Swept) → CauseUnswept (stop.BadCapacity dev) w → ⊥
device_unswept dev w (inl c) = let e : stop.BadCapacity dev ≡ stop.Script c.0 = c.2 in absurd (cc)
device_unswept dev w (inr c) = c.1

rig_unswept : (w : Swept) → CauseUnswept stop.RigFault w → ⊥
rig_unswept w (inl c) = let e : stop.RigFault ≡ stop.Script c.0 = c.2 in absurd (cc)
rig_unswept w (inr c) = c.1

-- what may refuse a sweep whose source doesn't fail: the text, the volume, or want of memory
pub record May (s : Stop) (P : Type 0) : Type 0 where
  pub script : (bad : ScriptFault) → s ≡ stop.Script bad → P
  pub volume : (entry : ℕ) (kind : VolumeKind) → s ≡ stop.Volume entry kind → P
  pub memory : s ≡ stop.Memory → P

may : (s : Stop) (P : Type 0) (byte : ℕ) (units : List UnitSpec) (f : Facts) → Calm f.reads f.reads_after → CauseNotSwept byte units (refusal.Stopped s) f → May s P → P
may (stop.Script bad) P byte units f k c m = m.script bad refl
may (stop.Image x) P byte units f k (inl c) m = absurd c
may (stop.Image x) P byte units f k (inr c) m = absurd (image_unswept x (swept byte units c.0) c.2)
may (stop.BadCapacity dev) P byte units f k (inl c) m = absurd c
may (stop.BadCapacity dev) P byte units f k (inr c) m = absurd (device_unswept dev (swept byte units c.0) c.2)
may (stop.Volume entry kind) P byte units f k c m = m.volume entry kind refl
may stop.RigFault P byte units f k (inl c) m = absurd c
may stop.RigFault P byte units f k (inr c) m = absurd (rig_unswept (swept byte units c.0) c.2)
may stop.Memory P byte units f k c m = m.memory refl
may stop.ReadFault P byte units f k c m = absurd (source_failed byte units f k c)

-- a sweep whose volume is at fault has read its script
volume_read : (s : Stop) (entry : ℕ) (kind : VolumeKind) (byte : ℕ) (units : List UnitSpec) (f : Facts) → s ≡ stop.Volume entry kind → CauseNotSwept byte units (refusal.Stopped s) f → (script : Script) × HasRead script f.left f.left_after f.reads f.reads_after × CauseUnswept (stop.Volume entry kind) (swept byte units script)
volume_read s entry kind byte units f e c = by (subst (λ (x : Stop). CauseNotSwept byte units (refusal.Stopped x) f) e c)
  where
    by : CauseNotSwept byte units (refusal.Stopped (stop.Volume entry kind)) f → (script : Script) × HasRead script f.left f.left_after f.reads f.reads_after × CauseUnswept (stop.Volume entry kind) (swept byte units script)
    by (inl c) = absurd c
    by (inr c) = c

wrong : (byte : ℕ) (units : List UnitSpec) (f : Facts) (v : Verdict Refusal Sweeping) → Cause lab (sweep_work byte units) v f → (text : List ℕ) (bad : ScriptFault) → f.left ≡ Some text → script_in text ≡ Err bad → Calm f.reads f.reads_after → RefusesInput (verdict_status lab (sweep_work byte units) v)
wrong byte units f (Refused (refusal.Stopped s)) c text bad l e k = may s (RefusesInput (stop_status s)) byte units f k c (record {
  script = λ x m. inl (ap stop_status m);
  volume = λ entry kind m. (let v = volume_read s entry kind byte units f m c in absurd (read_none f text bad v.0 l e v.1));
  memory = λ m. inr (ap stop_status m);
})
wrong byte units f (Refused _) c text bad l e k = absurd c
wrong byte units f (Done x) c text bad l e k = absurd (read_none f text bad x.script l e c.read)

own : (byte : ℕ) (units : List UnitSpec) (f : Facts) (v : Verdict Refusal Sweeping) → Cause lab (sweep_work byte units) v f → (text : List ℕ) (script : Script) (bad : ScriptFault) → f.left ≡ Some text → script_in text ≡ Ok script → own_fault script ≡ Some bad → Calm f.reads f.reads_after →
    RefusesInput (verdict_status lab (sweep_work byte units) v)
own byte units f (Refused (refusal.Stopped s)) c text script bad l e w k = may s (RefusesInput (stop_status s)) byte units f k c (record {
  script = λ x m. inl (ap stop_status m);
  volume = λ entry kind m. (
      let v = volume_read s entry kind byte units f m c in
      absurd (not_free script v.0 bad (read_same f text script v.0 l e v.1) w (volume_free entry kind (swept byte units v.0) v.2).0));
  memory = λ m. inr (ap stop_status m);
})
own byte units f (Refused _) c text script bad l e w k = absurd c
own byte units f (Done x) c text script bad l e w k = absurd (not_free script x.script bad (read_same f text script x.script l e c.read) w c.own)

no_bad_script : (s : Stop) (byte : ℕ) (units : List UnitSpec) (f : Facts) (i : IsRightSweep units f) (bad : ScriptFault) → s ≡ stop.Script bad → CauseNotSwept byte units (refusal.Stopped s) f → ⊥
no_bad_script s byte units f i bad e c = by (subst (λ (x : Stop). CauseNotSwept byte units (refusal.Stopped x) f) e c)
  where
    by : CauseNotSwept byte units (refusal.Stopped (stop.Script bad)) f → ⊥
    by (inl c) = let m : stop.Script bad ≡ stop.Memory = untaken_for_memory (stop.Script bad) (source_of f) i.text i.script i.left i.reads i.source c in absurd (cc)
    by (inr c) = not_stopped byte units f i c.0 bad (read_same f i.text i.script c.0 i.left i.reads c.1) c.2

-- a sweep that isn't broken off gives 0 or 1
cut_good : (broken : Option ℕ) (b : Bool) → RunsOrWants (cut_status broken status.Memory (done_status b))
cut_good None b = inl (done_is b)
cut_good (Some n) b = inr refl

right : (byte : ℕ) (units : List UnitSpec) (f : Facts) (v : Verdict Refusal Sweeping) → Cause lab (sweep_work byte units) v f → IsRightSweep units f → RunsOrWants (verdict_status lab (sweep_work byte units) v)
right byte units f (Refused (refusal.Stopped s)) c i = may s (RunsOrWants (stop_status s)) byte units f i.source c (record {
  script = λ bad m. absurd (no_bad_script s byte units f i bad m c);
  volume = λ entry kind m. (
      let v = volume_read s entry kind byte units f m c in
      absurd (no_bad_volume units f i v.0 entry kind (read_same f i.text i.script v.0 i.left i.reads v.1) (volume_free entry kind (swept byte units v.0) v.2).1));
  memory = λ m. inr (ap stop_status m);
})
right byte units f (Refused _) c i = absurd c
right byte units f (Done x) c i = cut_good x.broken (has_unseen (swept byte units x.script))

pub sweeps : (byte : ℕ) (units : List UnitSpec) (f : Facts) (v : Verdict Refusal Sweeping) → Cause lab (sweep_work byte units) v f → (sweep_work byte units).Answers f (verdict_status lab (sweep_work byte units) v)
sweeps byte units f v c = record {
  wrong = λ text bad l e k. wrong byte units f v c text bad l e k;
  own = λ text script bad l e w k. own byte units f v c text script bad l e w k;
  right = λ text script l e o tb bd k. right byte units f v c (record { text = text; script = script; left = l; reads = e; own = o; table = tb; bound = bd; source = k });
}
