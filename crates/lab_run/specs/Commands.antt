-- What each command comes to; and a call by its words.
use Rattle.std.specs.Prelude.{ℕ, ◌≡◌, List, Option, Some, None, Result}
use Rattle.call_verdict.specs.Verdicts.{Comes, Work}
use Rattle.call_verdict.specs.declared.status.Status.{Status}
use Rattle.call_verdict.specs.declared.status.Status.TheVariants as status
use Rattle.lab_run.specs.declared.command.Command.{Command}
use Rattle.lab_run.specs.declared.command.Command.TheVariants.{Help, Version, ShowUnits, ShowBlocks, Diff, Export, Import, Vectors, Judge, Explain, Sweep, Check, Failures}
use Rattle.lab_run.specs.Calls.{Facts}
use Rattle.lab_run.specs.Checking.{check_work}
use Rattle.lab_run.specs.Comparing.{diff_work}
use Rattle.lab_run.specs.Dumping.{WritesPlace, export_work, import_work}
use Rattle.lab_run.specs.Explained.{explain_work}
use Rattle.lab_run.specs.Failing.{failures_work}
use Rattle.lab_run.specs.Judging.{judge_work}
use Rattle.lab_run.specs.Keeping.{LeavesAll, ReadsBoth, ReadsFirst, ReadsSource, UsesRig}
use Rattle.lab_run.specs.Showing.{list_work, show_work}
use Rattle.lab_run.specs.Swept.{sweep_work}
use Rattle.lab_run.specs.Texts.{help_text, lab, refusal_text, version_text}
use Rattle.lab_run.specs.Vectors.{vectors_work}
use Rattle.lab_run.specs.declared.refusal.Refusal.{Refusal}
use Rattle.lab_run.specs.declared.refusal.Refusal.TheVariants as refusal

-- words that are no command
abbrev pub no_command : Work lab
no_command = record {
  Yield = ⊥;
  WasDone = λ x f. ⊥;
  status = λ x. status.Words;
  text = λ x. refusal_text refusal.Words;
  WasRefused = λ r f. r ≡ refusal.Words;
  Answers = λ f s. s ≡ status.Words;
}

-- a command that writes this text and does nothing
abbrev pub say_work : List ℕ → Work lab
say_work said = record {
  Yield = Unit {0};
  WasDone = λ x f. Unit {0};
  status = λ x. status.Whole;
  text = λ x. said;
  WasRefused = λ r f. ⊥;
  Answers = λ f s. s ≡ status.Whole;
}

-- what words come to
abbrev pub work_of : Option Command → Work lab
work_of None = no_command
work_of (Some Help) = say_work help_text
work_of (Some Version) = say_work version_text
work_of (Some ShowUnits) = list_work
work_of (Some (ShowBlocks only_bad place)) = show_work only_bad place
work_of (Some (Diff one other)) = diff_work one other
work_of (Some (Export place layout)) = export_work place layout
work_of (Some (Import place layout)) = import_work place layout
work_of (Some Vectors) = vectors_work
work_of (Some Judge) = judge_work
work_of (Some Explain) = explain_work
work_of (Some (Sweep byte units)) = sweep_work byte units
work_of (Some (Check words)) = check_work words
work_of (Some (Failures ty)) = failures_work ty

-- what stays as it was, whatever they come to
abbrev pub Keeps : Option Command → Facts → Type 0
Keeps None f = LeavesAll f
Keeps (Some Help) f = LeavesAll f
Keeps (Some Version) f = LeavesAll f
Keeps (Some ShowUnits) f = ReadsFirst f
Keeps (Some (ShowBlocks only_bad place)) f = ReadsFirst f
Keeps (Some (Diff one other)) f = ReadsBoth f
Keeps (Some (Export place layout)) f = ReadsFirst f
Keeps (Some (Import place layout)) f = WritesPlace place f
Keeps (Some Vectors) f = UsesRig f
Keeps (Some Judge) f = ReadsSource f
Keeps (Some Explain) f = UsesRig f
Keeps (Some (Sweep byte units)) f = ReadsSource f
Keeps (Some (Check words)) f = ReadsSource f
Keeps (Some (Failures ty)) f = LeavesAll f

-- What the function of a command answers, and what stays as it was.
pub record Came (c : Option Command) (result : Result Status Refusal) (f : Facts) (old new : Option (List ℕ)) (o n : ℕ) : Type 0 where
  pub comes : Comes lab (work_of c) result f old new o n
  pub kept : Keeps c f
