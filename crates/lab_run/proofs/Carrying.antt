-- A call comes to its end, by its words, and what it answers to what is told.
use Rattle.std.proofs.Common.{ℕ, ◌≡◌, List, Option, Some, None, Result, Ok, Err, inl, inr, refl, sym, ap, subst}
use Rattle.call_verdict.specs.Verdicts.{Cause, Done, IsPassedOn, Refused, Verdict, Work, Written, verdict_status}
use Rattle.call_verdict.specs.declared.status.Status.{Status}
use Rattle.call_verdict.proofs.Verdicts.{as_written}
use Rattle.dix_base.specs.Told.{Calm}
use Rattle.dix_base.specs.Stores.{StoreState}
use Rattle.lab_run.specs.Grammar.{command_in}
use Rattle.lab_run.specs.declared.command.Command.{Command}
use Rattle.lab_run.specs.declared.command.Command.TheVariants.{Help, Version, ShowUnits, ShowBlocks, Diff, Export, Import, Vectors, Judge, Explain, Sweep, Check, Failures}
use Rattle.rig_api.specs.State.{RigState}
use Rattle.lab_run.specs.Calls.{Facts}
use Rattle.lab_run.specs.Commands.{Came, Keeps, work_of}
use Rattle.lab_run.specs.Headline.{Carries}
use Rattle.lab_run.specs.Sinks.{EndedOver, Said, Sunk, sunk}
use Rattle.lab_run.specs.Texts.{lab}
use Rattle.lab_run.specs.declared.refusal.Refusal.{Refusal}
use Rattle.lab_run.proofs.Checks.{checks}
use Rattle.lab_run.proofs.Differing.{compares}
use Rattle.lab_run.proofs.Dumping.{exports, takes}
use Rattle.lab_run.proofs.Explains.{explains}
use Rattle.lab_run.proofs.Judges.{judges}
use Rattle.lab_run.proofs.Shows.{lists, shows}
use Rattle.lab_run.proofs.Sweeps.{sweeps}
use Rattle.lab_run.proofs.Vectoring.{plays}

answers : (c : Option Command) (f : Facts) (v : Verdict Refusal (work_of c).Yield) → Cause lab (work_of c) v f → (work_of c).Answers f (verdict_status lab (work_of c) v)
answers None f (Refused r) c = ap lab.status_of c
answers None f (Done x) c = absurd x
answers (Some Help) f (Refused r) c = absurd c
answers (Some Help) f (Done x) c = refl
answers (Some Version) f (Refused r) c = absurd c
answers (Some Version) f (Done x) c = refl
answers (Some ShowUnits) f v c = lists f v c
answers (Some (ShowBlocks only_bad place)) f v c = shows only_bad place f v c
answers (Some (Diff one two)) f v c = compares one two f v c
answers (Some (Export place layout)) f v c = exports place layout f v c
answers (Some (Import place layout)) f v c = takes place layout f v c
answers (Some Vectors) f v c = plays f v c
answers (Some Judge) f v c = judges f v c
answers (Some Explain) f v c = explains f v c
answers (Some (Sweep byte units)) f v c = sweeps byte units f v c
answers (Some (Check words)) f v c = checks words f v c
answers (Some (Failures ty)) f (Refused r) c = inr (ap lab.status_of c)
answers (Some (Failures ty)) f (Done x) c = inl refl

-- where no sink had a fault the status is the verdict's
as_said : (w : Work lab) (v : Verdict Refusal w.Yield) (out says : Sunk) (result : Status) → Said w v out says result → Calm out.faults out.faults_after → Calm says.faults says.faults_after → result ≡ verdict_status lab w v
as_said w (Done x) out says result said calm quiet = as_written lab w (Done x) out.taken out.taken_after out.faults out.faults_after result calm said.0.written
as_said w (Refused r) out says result said calm quiet = as_written lab w (Refused r) says.taken says.taken_after says.faults says.faults_after result quiet said.0.written

carried : (f : Facts) (out says : Sunk) (result : Status) → EndedOver (work_of (command_in f.words)) f out says result → Keeps (command_in f.words) f → Carries f out says result
carried f out says result ended kept = record {
  ended = ended;
  complete = λ calm quiet. subst ((work_of (command_in f.words)).Answers f) (sym (as_said (work_of (command_in f.words)) ended.verdict out says result ended.said calm quiet)) (answers (command_in f.words) f ended.verdict ended.cause);
  kept = kept;
}

-- a function that was done: the other sink is as it was
pub carried_done : (f : Facts) (taken taken' passed : Option (List ℕ)) (o n : ℕ) (t p : Option (List ℕ)) (k : ℕ) (s : Status) → Came (command_in f.words) (Ok s) f taken taken' o n → IsPassedOn s passed taken' → Carries f (sunk taken taken' passed o n) (sunk t t p k k) s
carried_done f taken taken' passed o n t p k s came handed =
    carried f (sunk taken taken' passed o n) (sunk t t p k k) s
    (record { verdict = Done came.comes.0; cause = came.comes.1; said = (record { written = came.comes.2; handed = handed }, record { taken = refl; faults = refl }) }) came.kept

-- a function that answered a refusal, whose line the other sink took
pub carried_refused : (f : Facts) (taken taken' passed : Option (List ℕ)) (o n : ℕ) (t t' p : Option (List ℕ)) (k m : ℕ) (r : Refusal) (result : Status) → Came (command_in f.words) (Err r) f taken taken' o n → Written (lab.status_of r) (lab.text_of r) t t' k m result → IsPassedOn result p t' →
    Carries f (sunk taken taken' passed o n) (sunk t t' p k m) result
carried_refused f taken taken' passed o n t t' p k m r result came written handed =
    carried f (sunk taken taken' passed o n) (sunk t t' p k m) result
    (record { verdict = Refused r; cause = came.comes.0; said = (record { written = written; handed = handed }, record { taken = came.comes.1; faults = came.comes.2 }) }) came.kept

-- a call of words that name this
pub came_by : (c : Option Command) (result : Result Status Refusal) (f : Facts) (taken taken' : Option (List ℕ)) (o n : ℕ) → command_in f.words ≡ c → Came c result f taken taken' o n → Came (command_in f.words) result f taken taken' o n
came_by c result f taken taken' o n named came = subst (λ (x : Option Command). Came x result f taken taken' o n) (sym named) came
