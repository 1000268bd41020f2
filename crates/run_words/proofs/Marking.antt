-- From what a text and its run come to, to what the call comes to.
use Rattle.std.proofs.Common.{ℕ, ◌≡◌, ◌⊎◌, inl, inr, ◌+◌, Bool, true, cond, List, [], length, Option, Some, None, Result, Ok, Err, refl, sym, ap, subst, ◌∙◌, arith}
use Rattle.std.specs.Prelude.{IfErr, MatchResult, nat_lt}
use Rattle.std.proofs.lemmas.Bool.{lt-ltb}
use Rattle.dix_base.specs.Told.{Calm, Took}
use Rattle.fault_marks.specs.Entries.{misfit_text}
use Rattle.fault_marks.specs.Texts.{marked_text}
use Rattle.script_lines.specs.declared.kind.ScriptKind.TheVariants.{TooMany}
use Rattle.script_text.specs.Language.{lines_read, nothing_read, script_in}
use Rattle.script_text.specs.declared.fault.ScriptFault.{ScriptFault}
use Rattle.script_text.specs.declared.script.Script.{Script}
use Rattle.run_command.proofs.Completing.{complete}
use Rattle.run_command.specs.Verdict.{CauseRefused, CauseStopped, Facts, HasBadVolume, HasRead, HoldsFault, IsFromOutside, IsUnbound, WasAsked, devices_of, table_over}
use Rattle.call_refusal.specs.declared.refusal.Refusal.{Refusal}
use Rattle.call_refusal.specs.declared.refusal.Refusal.TheVariants as refusal
use Rattle.run_command.proofs.Refusing.{within}
use Rattle.rig_api.specs.Head.{head_fault, head_of}
use Rattle.rig_api.specs.State.{RigState}
use Rattle.script_text.specs.Bindings.{binding_fault}
use Rattle.script_words.specs.Cuts.{lines_of}
use Rattle.volume_table.specs.Faults.{table_fault}
use Rattle.volume_table.specs.declared.device.DeviceInfo.{DeviceInfo}
use Rattle.volume_table.specs.declared.fault.VolumeKind.{VolumeKind}
use Rattle.dix_base.proofs.Taking.{most_is}
use Rattle.dix_base.specs.Reading.{IsOver, IsWhole, TookAtMost, most_bytes}
use Rattle.run_words.specs.Explained.{CauseHalted, CauseNotRun, CauseUnexplained, CauseUnrun, ExplainsRead, ExplainsText, HasExplained, HasFaultyText, HasMarked, HasMisfit, IsAtFault, IsComplete, IsHaltOf, IsMisfitSaid, IsSaid, WasExplained}
use Rattle.run_words.specs.declared.explain.Explained.{Explained}
use Rattle.run_words.specs.declared.explain.Unexplained.{Unexplained}
use Rattle.run_words.specs.declared.explain.Unexplained.TheVariants.{Marked, Misfit, Refused}

pub over : (a b : Option (List ℕ)) → IsOver a b → TookAtMost (most_bytes + 1) a b
over a b w = let l = w.2 in (w.0, w.1, omega (arith, l))

-- ---- a script that comes to no run

-- the devices of its image were asked
asked_only : (u : Unexplained) (devices : List DeviceInfo) (text : List ℕ) (script : Script) (name : List ℕ) (old new : RigState) → u ≡ Refused refusal.Memory → WasAsked name devices old new → CauseUnrun u text script name old new
asked_only u devices text script name old new e asked = subst (λ (x : Unexplained). CauseUnrun x text script name old new) (sym e) (inr (devices, asked))

by_unbound : (u : Unexplained) (bad : ScriptFault) (text : List ℕ) (script : Script) (name : List ℕ) (old new : RigState) → IsUnbound bad script name old new → IsSaid u (marked_text text bad) → CauseUnrun u text script name old new
by_unbound (Marked said) bad text script name old new c h = record { bad = bad; unbound = c; marks = h }
by_unbound (Misfit said) bad text script name old new c h = absurd h
by_unbound (Refused r) bad text script name old new c h = asked_only (Refused r) c.devices text script name old new (ap Refused h) c.asked

by_misfit : (u : Unexplained) (entry : ℕ) (kind : VolumeKind) (text : List ℕ) (script : Script) (name : List ℕ) (old new : RigState) → HasBadVolume entry kind script name old new → IsMisfitSaid u (misfit_text text entry kind) → CauseUnrun u text script name old new
by_misfit (Marked said) entry kind text script name old new c h = absurd h
by_misfit (Misfit said) entry kind text script name old new c h = record { entry = entry; kind = kind; bad = c; marks = h }
by_misfit (Refused r) entry kind text script name old new c h = asked_only (Refused r) c.devices text script name old new (ap Refused h) c.asked

unrun_so : (r : Refusal) (u : Unexplained) (text : List ℕ) (script : Script) (name : List ℕ) (old new : RigState) → u ≡ Refused r → CauseHalted r script name old new → CauseUnrun u text script name old new
unrun_so r u text script name old new e c = subst (λ (x : Unexplained). CauseUnrun x text script name old new) (sym e) c

pub unrun : (r : Refusal) (u : Unexplained) (text : List ℕ) (script : Script) (name : List ℕ) (old new : RigState) → CauseStopped r script name old new → IsHaltOf r u text → CauseUnrun u text script name old new
unrun (refusal.Script bad) u text script name old new c h = by_unbound u bad text script name old new c h
unrun (refusal.Image x) u text script name old new c h = unrun_so (refusal.Image x) u text script name old new h c
unrun (refusal.BadCapacity dev) u text script name old new c h = unrun_so (refusal.BadCapacity dev) u text script name old new h c
unrun (refusal.Volume entry kind) u text script name old new c h = by_misfit u entry kind text script name old new c h
unrun refusal.RigFault u text script name old new c h = unrun_so refusal.RigFault u text script name old new h c
unrun refusal.Memory u text script name old new c h = unrun_so refusal.Memory u text script name old new h c
unrun refusal.ReadFault u text script name old new c h = unrun_so refusal.ReadFault u text script name old new h c

-- ---- a text

pub as_read : (want : Result Script ScriptFault) (script : Script) (r : Result Explained Unexplained) (text name : List ℕ) (old new : RigState) → want ≡ Ok script → MatchResult r (λ e. WasExplained e script name old new) (λ u. CauseUnrun u text script name old new) → ExplainsRead want r text name old new
as_read want script r text name old new e h = subst (λ (w : Result Script ScriptFault). ExplainsRead w r text name old new) (sym e) h

-- ---- a source

halted : (r : Refusal) (f : Facts) (script : Script) → HasRead script f.left f.left_after f.reads f.reads_after → CauseHalted r script f.name f.rig f.rig_after → CauseNotRun r f
halted (refusal.Script bad) f script read c = absurd c
halted (refusal.Image x) f script read c = inr (script, read, c)
halted (refusal.BadCapacity dev) f script read c = inr (script, read, c)
halted (refusal.Volume entry kind) f script read c = absurd c
halted refusal.RigFault f script read c = inr (script, read, c)
halted refusal.Memory f script read c = inr (script, read, c)
halted refusal.ReadFault f script read c = absurd c

for_memory : (u : Unexplained) (f : Facts) → u ≡ Refused refusal.Memory → TookAtMost (most_bytes + 1) f.left f.left_after → f.rig_after ≡ f.rig → CauseUnexplained u f
for_memory u f e t k = subst (λ (x : Unexplained). CauseUnexplained x f) (sym e) (inl (t, k))

by_read : (want : Result Script ScriptFault) (r : Result Explained Unexplained) (text : List ℕ) (f : Facts) → IsWhole text f.left f.left_after → f.reads_after ≡ f.reads → script_in text ≡ want → ExplainsRead want r text f.name f.rig f.rig_after → MatchResult r (λ e. HasExplained e f) (λ u. CauseUnexplained u f)
by_read (Ok script) (Ok x) text f w k e h = record { script = script; read = record { text = text; whole = w; reads = e; calm = k }; explained = h }
by_read (Ok script) (Err (Marked said)) text f w k e h =
    record { text = text; bad = h.bad; fault = inr (record { script = script; whole = w; reads = e; calm = k; unbound = h.unbound }); marks = h.marks }
by_read (Ok script) (Err (Misfit said)) text f w k e h = record { text = text; script = script; whole = w; reads = e; calm = k; entry = h.entry; kind = h.kind; bad = h.bad; marks = h.marks }
by_read (Ok script) (Err (Refused r)) text f w k e h = halted r f script (record { text = text; whole = w; reads = e; calm = k }) h
by_read (Err bad) (Ok x) text f w k e h = absurd h.1
by_read (Err bad) (Err (Marked said)) text f w k e h = record { text = text; bad = bad; fault = inl (record { taken = inl w; reads = e; rig = h.0 }); marks = h.1 }
by_read (Err bad) (Err (Misfit said)) text f w k e h = absurd h.1
by_read (Err bad) (Err (Refused r)) text f w k e h = for_memory (Refused r) f (ap Refused h.1) (within text f.left f.left_after w) h.0

pub by_text : (r : Result Explained Unexplained) (text : List ℕ) (f : Facts) → IsWhole text f.left f.left_after → f.reads_after ≡ f.reads → ExplainsText r text f.name f.rig f.rig_after → MatchResult r (λ e. HasExplained e f) (λ u. CauseUnexplained u f)
by_text r text f w k (inl m) =
    subst (λ (x : Result Explained Unexplained). MatchResult x (λ e. HasExplained e f) (λ u. CauseUnexplained u f)) (sym m.0) (inl (within text f.left f.left_after w, m.1))
by_text r text f w k (inr h) = by_read (script_in text) r text f w k refl h

pub too_long : (text : List ℕ) → length text ≡ most_bytes + 1 → script_in text ≡ Err (record { line = 0; kind = TooMany })
too_long text l =
    let m = most_is in
    let t : nat_lt 4194304 (length text) ≡ true = lt-ltb 4194304 (length text) (omega (arith, l, m)) in
    ap (λ (b : Bool). cond b (Err (record { line = 0; kind = TooMany })) (lines_read 1 (lines_of text) nothing_read)) t

pub by_long : (u : Unexplained) (f : Facts) → IsOver f.left f.left_after → f.rig_after ≡ f.rig → ((text : List ℕ) → IsSaid u (marked_text text (record { line = 0; kind = TooMany }))) → CauseUnexplained u f
by_long (Marked said) f long k says =
    record { text = long.0; bad = record { line = 0; kind = TooMany }; fault = inl (record { taken = inr (long.1, long.2); reads = too_long long.0 long.2; rig = k }); marks = says long.0 }
by_long (Misfit said) f long k says = absurd (says [])
by_long (Refused r) f long k says = for_memory (Refused r) f (ap Refused (says [])) (over f.left f.left_after long) k

-- ---- where nothing is at fault

same_fault : (a b : ScriptFault) (x : Result Script ScriptFault) → x ≡ Err a → x ≡ Err b → a ≡ b
same_fault a b x p q = let e : ◌≡◌ {A = Result Script ScriptFault} (Err a) (Err b) = sym p ∙ q in cc

holds : (text : List ℕ) (bad : ScriptFault) (f : Facts) → HasFaultyText text bad f → HoldsFault bad f.left f.left_after
holds text bad f h = by_taken h.taken
  where
    by_taken : IsWhole text f.left f.left_after ⊎ (Took text f.left f.left_after × (length text ≡ most_bytes + 1)) → HoldsFault bad f.left f.left_after
    by_taken (inl w) = inl (text, w, h.reads)
    by_taken (inr t) = inr ((text, t.0, t.1), same_fault bad _ (script_in text) h.reads (too_long text t.1))

refused_so : (text : List ℕ) (bad : ScriptFault) (f : Facts) → IsAtFault text bad f → CauseRefused (refusal.Script bad) f
refused_so text bad f (inl h) = inl (holds text bad f h, h.rig)
refused_so text bad f (inr h) = inr (h.script, record { text = text; whole = h.whole; reads = h.reads; calm = h.calm }, h.unbound)

not_outside : (bad : ScriptFault) → (refusal.Script bad ≡ refusal.Memory) ⊎ (refusal.Script bad ≡ refusal.RigFault) → ⊥
not_outside bad (inl e) = absurd (cc)
not_outside bad (inr e) = absurd (cc)

by_refusal : (r : Refusal) (f : Facts) → CauseNotRun r f → CauseRefused r f
by_refusal (refusal.Script bad) f c = absurd c
by_refusal (refusal.Image x) f c = c
by_refusal (refusal.BadCapacity dev) f c = c
by_refusal (refusal.Volume entry kind) f c = absurd c
by_refusal refusal.RigFault f c = c
by_refusal refusal.Memory f c = c
by_refusal refusal.ReadFault f c = c

abbrev pub IsFree : (outside : Type 0) → Facts → Type 0
IsFree outside f =
    (text image : List ℕ) (script : Script) → f.left ≡ Some text → script_in text ≡ Ok script → f.rig.image ≡ Some image → head_fault (head_of image) ≡ None → table_fault script.entries (devices_of image) script.block ≡ None →
    binding_fault script (table_over script.entries (devices_of image)) (devices_of image) ≡ None → Calm f.reads f.reads_after → outside

pub marked_complete : (said : List ℕ) (f : Facts) → HasMarked said f → IsFree ⊥ f
marked_complete said f c = λ text image script l s i h t b k. not_outside c.bad (complete (refusal.Script c.bad) f (refused_so c.text c.bad f c.fault) text image script l s i h t b k)

no_misfit : (entry : ℕ) (kind : VolumeKind) → (refusal.Volume entry kind ≡ refusal.Memory) ⊎ (refusal.Volume entry kind ≡ refusal.RigFault) → ⊥
no_misfit entry kind (inl e) = absurd (cc)
no_misfit entry kind (inr e) = absurd (cc)

pub misfit_complete : (said : List ℕ) (f : Facts) → HasMisfit said f → IsFree ⊥ f
misfit_complete said f c = λ text image script l s i h t b k.
    let read : HasRead c.script f.left f.left_after f.reads f.reads_after = record { text = c.text; whole = c.whole; reads = c.reads; calm = c.calm } in
    no_misfit c.entry c.kind (complete (refusal.Volume c.entry c.kind) f (inr (c.script, read, c.bad)) text image script l s i h t b k)

pub refused_complete : (r : Refusal) (f : Facts) → CauseNotRun r f → IsFree (IsFromOutside r) f
refused_complete r f c = complete r f (by_refusal r f c)

one_complete : (u : Unexplained) (f : Facts) → CauseUnexplained u f → IsComplete u f
one_complete (Marked said) f c = marked_complete said.items f c
one_complete (Misfit said) f c = misfit_complete said.items f c
one_complete (Refused r) f c = refused_complete r f c

pub all_complete : (r : Result Explained Unexplained) (f : Facts) → MatchResult r (λ e. HasExplained e f) (λ u. CauseUnexplained u f) → IfErr r (λ u. IsComplete u f)
all_complete (Ok e) f h = tt
all_complete (Err u) f h = one_complete u f h
