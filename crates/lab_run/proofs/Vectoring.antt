-- What `vectors` comes to.
use Rattle.std.proofs.Common.{ℕ, ◌≡◌, ◌⊎◌, inl, inr, List, drop, Option, Some, Ok, Err, refl, sym, ap, subst}
use Rattle.call_refusal.specs.declared.refusal.Refusal.{Refusal as Stop}
use Rattle.call_refusal.specs.declared.refusal.Refusal.TheVariants as stop
use Rattle.call_verdict.specs.Verdicts.{Cause, Done, Refused, RunsOrWants, Verdict, Written, done_status, stop_status, verdict_status}
use Rattle.call_verdict.specs.declared.status.Status.{Status}
use Rattle.call_verdict.specs.declared.status.Status.TheVariants as status
use Rattle.call_verdict.proofs.Verdicts.{done_is}
use Rattle.dix_base.specs.Stores.{StoreState}
use Rattle.dix_base.specs.Told.{Calm}
use Rattle.dix_base.proofs.Counts.{never_rose}
use Rattle.lab_run.specs.declared.command.Command.TheVariants.{Vectors}
use Rattle.rig_api.specs.Log.{LogEntry}
use Rattle.rig_api.specs.State.{RigState}
use Rattle.rig_api.specs.declared.rig.RigFault.{RigFault}
use Rattle.script_text.specs.declared.fault.ScriptFault.{ScriptFault}
use Rattle.run_command.specs.Verdict.{Facts as PlayFacts, IsFromOutside}
use Rattle.call_verdict.specs.Words.{image_in}
use Rattle.vector_runs.specs.ListText.{has_sense}
use Rattle.vector_runs.specs.Played.{CauseNotPlayed, HasCome, HasPlayed, first_of, played_text}
use Rattle.vector_runs.specs.Taken.{text_fault}
use Rattle.vector_runs.specs.declared.playing.Played.{Played}
use Rattle.vector_runs.proofs.Heads.{head_refused, not_played_out, not_played_over, range_refused}
use Rattle.vector_runs.proofs.Whole.{faulty_refused, list_complete, not_played_faulty, rig_failed, script_complete}
use Rattle.lab_run.specs.Calls.{Facts, on_rig}
use Rattle.lab_run.specs.Commands.{Came}
use Rattle.lab_run.specs.Keeping.{UsesRig}
use Rattle.lab_run.specs.Telling.{RefusesInput}
use Rattle.lab_run.specs.Texts.{lab}
use Rattle.lab_run.specs.Vectors.{CauseNotAnswered, played_by, vectors_work}
use Rattle.lab_run.specs.declared.refusal.Refusal.{Refusal}
use Rattle.lab_run.specs.declared.refusal.Refusal.TheVariants as refusal

-- ---- a call

-- what a call speaks of whose image has this name
abbrev pub named : List ℕ → Facts → PlayFacts
named name f = record { name = name; left = f.left; left_after = f.left_after; reads = f.reads; reads_after = f.reads_after; rig = f.rig; rig_after = f.rig_after }

pub played : (words : List (List ℕ)) (left left' : Option (List ℕ)) (reads reads' : ℕ) (rig rig' : RigState) (first second : StoreState) (name : List ℕ) (p : Played) (taken taken' : Option (List ℕ)) (o n : ℕ) (s : Status) → name ≡ image_in words →
    HasCome (Ok p) (named name (on_rig words left left' reads reads' rig rig' first second)) → Written (done_status (has_sense (drop (first_of p) rig'.log))) (played_text p (drop (first_of p) rig'.log)) taken taken' o n s →
    Came (Some Vectors) (Ok s) (on_rig words left left' reads reads' rig rig' first second) taken taken' o n
played words left left' reads reads' rig rig' first second name p taken taken' o n s i h t =
    let f = on_rig words left left' reads reads' rig rig' first second in
    let come : HasCome (Ok p) (played_by f) = subst (λ (x : List ℕ). HasCome (Ok p) (named x f)) i h in
    record {
      comes = ((p, drop (first_of p) rig'.log), (come.verdict, come.since), t);
      kept = record { source = come.reads; rig = (come.opens, come.count); first = refl; second = refl };
    }

pub stopped : (words : List (List ℕ)) (left left' : Option (List ℕ)) (reads reads' : ℕ) (rig rig' : RigState) (first second : StoreState) (name : List ℕ) (r : Stop) (x : Refusal) (taken : Option (List ℕ)) (o : ℕ) → name ≡ image_in words → x ≡ refusal.Stopped r →
    HasCome (Err r) (named name (on_rig words left left' reads reads' rig rig' first second)) → Came (Some Vectors) (Err x) (on_rig words left left' reads reads' rig rig' first second) taken taken o o
stopped words left left' reads reads' rig rig' first second name r x taken o i e h =
    let f = on_rig words left left' reads reads' rig rig' first second in
    let come : HasCome (Err r) (played_by f) = subst (λ (y : List ℕ). HasCome (Err r) (named y f)) i h in
    record {
      comes = (subst (λ (y : Refusal). CauseNotAnswered y f) (sym e) come.verdict, refl, refl);
      kept = record { source = come.reads; rig = (come.opens, come.count); first = refl; second = refl };
    }

-- ---- texts and images that are told

-- of what was done the status is 0 or 1, and of what wasn't it is the refusal's
by_verdict : (f : Facts) (v : Verdict Refusal (Played × List LogEntry)) (P : Status → Type 0) → Cause lab vectors_work v f → ((p : Played) (entries : List LogEntry) → HasPlayed p (played_by f) → P (done_status (has_sense entries))) → ((s : Stop) → CauseNotPlayed s (played_by f) → P (stop_status s)) → P (verdict_status lab vectors_work v)
by_verdict f (Refused (refusal.Stopped s)) P c was unwas = unwas s c
by_verdict f (Refused _) P c was unwas = absurd c
by_verdict f (Done x) P c was unwas = was x.0 x.1 c.0

faulty : (r : Stop) → ((x : ScriptFault) × (r ≡ stop.Script x)) ⊎ (r ≡ stop.Memory) → RefusesInput (stop_status r)
faulty r (inl x) = inl (ap stop_status x.1)
faulty r (inr x) = inr (ap stop_status x)

headless : (r : Stop) → ((x : RigFault) × (r ≡ stop.Image x)) ⊎ (r ≡ stop.Memory) → (stop_status r ≡ status.Image) ⊎ (stop_status r ≡ status.Memory)
headless r (inl x) = inl (ap stop_status x.1)
headless r (inr x) = inr (ap stop_status x)

outside : (f : Facts) (r : Stop) → Calm f.rig.faults f.rig_after.faults → CauseNotPlayed r (played_by f) → IsFromOutside r → RunsOrWants (stop_status r)
outside f r k c (inl m) = inr (ap stop_status m)
outside f r k c (inr m) = absurd (never_rose f.rig.faults f.rig_after.faults k (rig_failed r (played_by f) m c))

pub plays : (f : Facts) (v : Verdict Refusal (Played × List LogEntry)) → Cause lab vectors_work v f → vectors_work.Answers f (verdict_status lab vectors_work v)
plays f v c = record {
  wrong = λ text bad l t k. by_verdict f v (λ s. (s ≡ status.Input) ⊎ (s ≡ status.Memory)) c (λ p e h. absurd (not_played_faulty p (played_by f) text bad l t h)) (λ s h. faulty s (faulty_refused s (played_by f) text bad l t k.0 h));
  head = λ text image y l t i h k.
      by_verdict f v (λ s. (s ≡ status.Image) ⊎ (s ≡ status.Memory)) c (λ p e d. absurd (not_played_over p (played_by f) image y i h d)) (λ s d. headless s (head_refused s (played_by f) text image y l t i h k.0 k.1 d));
  range = λ text image lines bad l a b i h d k.
      by_verdict f v (λ s. (s ≡ status.Input) ⊎ (s ≡ status.Memory)) c (λ p e j. absurd (not_played_out p (played_by f) text image lines bad l a b i d j)) (λ s j. faulty s (range_refused s (played_by f) text image lines l a b i h k.0 k.1 j));
  list = λ text image lines l a b i h d k. by_verdict f v RunsOrWants c (λ p e j. inl (done_is (has_sense e))) (λ s j. outside f s k.1 j (list_complete s (played_by f) j text image lines l a b i h d k.0));
  script = λ text image script l a b u i h t d k. by_verdict f v RunsOrWants c (λ p e j. inl (done_is (has_sense e))) (λ s j. outside f s k.1 j (script_complete s (played_by f) j text image script l a b u i h t d k.0));
}
