-- The rig is opened at most once, and its count of faults doesn't fall.
use Rattle.std.proofs.Common.{ℕ, ◌≡◌, ◌⊎◌, inl, inr, ◌≤◌, List, ap, ◌∙◌, arith, refl}
use Rattle.rig_discovery.specs.Openings.{HasKept, HasOpened, OpenedOnce}
use Rattle.call_refusal.specs.Causes.{CauseUntold}
use Rattle.rig_api.specs.Telling.{Opened, Standing}
use Rattle.rig_api.specs.State.{RigState}
use Rattle.script_text.specs.declared.script.Script.{Script}
use Rattle.run_command.specs.Verdict.{CauseStopped, Facts, HasRun, StoppedShort}
use Rattle.call_refusal.specs.declared.refusal.Refusal.{Refusal}
use Rattle.call_refusal.specs.declared.refusal.Refusal.TheVariants as refusal
use Rattle.run_command.specs.declared.verdict.Finished.{Finished}
use Rattle.vector_lines.specs.declared.line.VectorLine.{VectorLine}
use Rattle.vector_runs.specs.Answered.{BrokeOff, CauseUnanswered, IsReady}
use Rattle.vector_runs.specs.Played.{CauseNotPlayed, HasPlayed}
use Rattle.vector_runs.specs.declared.playing.Played.{Played}
use Rattle.vector_runs.specs.declared.playing.Played.TheVariants as played

-- Both at once: opened at most once by this name, and no fewer faults.
abbrev pub Goes : List ℕ → RigState → RigState → Type 0
Goes name old new = OpenedOnce name old.standing new.standing × (old.faults ≤ new.faults)

same : (name : List ℕ) (a b : RigState) → b ≡ a → Goes name a b
same name a b e = let n = ap (λ (v : RigState). v.faults) e in (inl (ap (λ (v : RigState). v.standing.openings) e, ap (λ (v : RigState). v.standing.name) e), omega (arith, n))

opened_by : (name : List ℕ) (a b c : Standing) → Opened name a b → c ≡ b → OpenedOnce name a c
opened_by name a b c o e = inr (ap (λ (s : Standing). s.openings) e ∙ o.0, ap (λ (s : Standing). s.name) e ∙ o.1)

on_from : (name : List ℕ) (old between told new : RigState) → HasOpened name old between told → new.standing ≡ told.standing → told.faults ≤ new.faults → Goes name old new
on_from name old between told new o s n = (opened_by name old.standing between.standing new.standing o.opened.opened (s ∙ o.standing), omega (arith, n, o.count, o.kept.count))

still : (name : List ℕ) (old between new : RigState) → HasOpened name old between new → Goes name old new
still name old between new o = on_from name old between new new o refl (omega arith)

untold : (r : Refusal) (name : List ℕ) (old new : RigState) → CauseUntold r name old new → Goes name old new
untold (refusal.Image f) name old new c = (inr c.0.opened, c.1.count)
untold (refusal.BadCapacity dev) name old new c = still name old c.between new c.since
untold refusal.RigFault name old new c = (inr c.1, c.2.count)
untold refusal.Memory name old new c = (c.1, c.0.count)
untold _ name old new c = absurd c

short : (name : List ℕ) (old new : RigState) → StoppedShort name old new → Goes name old new
short name old new (inl c) = (c.1, c.0.count)
short name old new (inr c) = still name old c.1.told.between new c.1.told.since

stopped : (r : Refusal) (script : Script) (name : List ℕ) (old new : RigState) → CauseStopped r script name old new → Goes name old new
stopped (refusal.Script bad) script name old new c = still name old c.asked.told.between new c.asked.told.since
stopped (refusal.Volume entry kind) script name old new c = still name old c.asked.told.between new c.asked.told.since
stopped refusal.Memory script name old new c = short name old new c
stopped r script name old new c = untold r name old new c

ran : (run : Finished) (script : Script) (name : List ℕ) (old new : RigState) → HasRun run script name old new → Goes name old new
ran run script name old new r = on_from name old r.asked.told.between r.told new r.asked.told.since r.followed.any_rig.goes.standing r.followed.any_rig.goes.faults

ready : (name : List ℕ) (old between new : RigState) → IsReady name old between → new.standing ≡ between.standing → between.faults ≤ new.faults → Goes name old new
ready name old between new r s n = (opened_by name old.standing between.standing new.standing r.opened.opened s, omega (arith, n, r.count))

broke_off : (name : List ℕ) (lines : List VectorLine) (old new : RigState) → (HasKept old new × OpenedOnce name old.standing new.standing) ⊎ BrokeOff name lines old new → Goes name old new
broke_off name lines old new (inl c) = (c.1, c.0.count)
broke_off name lines old new (inr c) = ready name old c.between new c.ready c.done.done.standing c.done.done.count

unanswered : (r : Refusal) (name : List ℕ) (lines : List VectorLine) (old new : RigState) → CauseUnanswered r name lines old new → Goes name old new
unanswered (refusal.Script bad) name lines old new c = ready name old new new c.0 refl (omega arith)
unanswered (refusal.Image x) name lines old new c = (inr c.0.opened, c.1.count)
unanswered refusal.RigFault name lines old new c = (inr c.0.1, c.1.count)
unanswered refusal.Memory name lines old new c = broke_off name lines old new c
unanswered _ name lines old new c = absurd c.0

pub refused_goes : (r : Refusal) (f : Facts) → CauseNotPlayed r f → Goes f.name f.rig f.rig_after
refused_goes r f (inl c) = same f.name f.rig f.rig_after c.1
refused_goes r f (inr (inl c)) = stopped r c.0 f.name f.rig f.rig_after c.2
refused_goes r f (inr (inr c)) = unanswered r f.name c.0 f.rig f.rig_after c.2

pub played_goes : (p : Played) (f : Facts) → HasPlayed p f → Goes f.name f.rig f.rig_after
played_goes (played.Listed lines first) f h = ready f.name f.rig h.answered.between f.rig_after h.answered.ready h.answered.done.standing h.answered.done.count
played_goes (played.Ran run) f h = ran run h.0 f.name f.rig f.rig_after h.2
