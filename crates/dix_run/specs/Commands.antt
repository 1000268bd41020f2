-- What each command comes to, one after another; and a call by its words.
use Rattle.std.specs.Prelude.{ℕ, ◌≡◌, Bool, List, ◌++◌, length, codes, decimal, map, Option, Some, None, Ok}
use Rattle.dix_base.specs.Told.{Calm}
use Rattle.rig_api.specs.Head.{head_fault, head_of, units_of}
use Rattle.rig_api.specs.Log.{LogEntry}
use Rattle.rig_api.specs.declared.units.UnitSpec.{UnitSpec}
use Rattle.pi_tuple.specs.declared.checks.PiType.{PiType}
use Rattle.volume_table.specs.declared.device.DeviceInfo.{DeviceInfo}
use Rattle.volume_table.specs.Faults.{table_fault}
use Rattle.rig_discovery.specs.Discovery.{info_of}
use Rattle.report_text.specs.Report.{report}
use Rattle.report_text.specs.Trace.{trace}
use Rattle.pi_scrub.specs.declared.found.Found.{Found}
use Rattle.image_commands.specs.Causes.{CauseUnformatted, CauseUnmigrated, CauseUnscrubbed, WasFormatted, WasMigrated, WasScrubbed}
use Rattle.nvme_command.specs.Texts.{text_in}
use Rattle.nvme_command.specs.declared.line.NvmLine.{NvmLine}
use Rattle.nvme_command.specs.Causes.{WereDone}
use Rattle.nvme_command.specs.Fits.{misfit}
use Rattle.mode_map.specs.Finders.{AreFirstFinders}
use Rattle.mode_map.specs.Modes.{modes_text}
use Rattle.script_text.specs.Bindings.{binding_fault}
use Rattle.script_text.specs.Language.{script_in}
use Rattle.script_text.specs.declared.script.Script.{Script}
use Rattle.run_command.specs.Texts.{has_bad}
use Rattle.run_command.specs.Verdict.{HasRunSource, devices_of, table_over}
use Rattle.run_command.specs.declared.verdict.Finished.{Finished}
use Rattle.mirror_script.specs.MirrorFaults.{mirror_fault}
use Rattle.mirror_command.specs.Texts.{is_any_lost, mirror_text}
use Rattle.mirror_command.specs.Verdict.{HasMirroredSource}
use Rattle.mirror_command.specs.declared.mirrored.Mirrored.{Mirrored}
use Rattle.big_run.specs.Ran.{RanBig}
use Rattle.big_run.specs.Text.{big_text}
use Rattle.big_run.specs.declared.running.BigRun.{BigRun}
use Rattle.call_verdict.specs.Words.{image_in}
use Rattle.dix_run.specs.Grammar.{command_in}
use Rattle.dix_run.specs.declared.command.Command.{Command}
use Rattle.dix_run.specs.declared.command.Command.TheVariants.{Run, Trace, Format, Migrate, Mirror, Scrub, Nvme, Modes, Big}
use Rattle.dix_run.specs.ScrubText.{has_some, scrub_text}
use Rattle.call_verdict.specs.Verdicts.{EndedAs, RunsOrFails, RunsOrWants, WholeOrWants, Work, done_status}
use Rattle.call_verdict.specs.declared.status.Status.{Status}
use Rattle.call_verdict.specs.declared.status.Status.TheVariants as status
use Rattle.dix_run.specs.Verdict.{ByCause, CauseNotCommanded, CauseNotMirrored, CauseNotRun, Facts, HasNoCommand, LeavesSource, WantsMemory, call_of, dix, usage_text}

-- The image is told, its head is right, and no call of its store fails.
pub record IsRightImage (f : Facts) : Type 0 where
  pub image : List ℕ
  pub image_is : f.rig.image ≡ Some image
  pub head : head_fault (head_of image) ≡ None
  pub calm : Calm f.rig.faults f.rig_after.faults

-- ---- words that are no command

abbrev pub no_command : Work dix
no_command = record {
  Yield = ⊥;
  WasDone = λ x f. ⊥;
  status = λ x. status.Words;
  text = λ x. usage_text;
  WasRefused = HasNoCommand;
  Answers = λ f s. s ≡ status.Words;
}

-- ---- run IMAGE: the script of the source was run on the image, and its report written

-- A script in the language, an image whose head is right, over whose devices volume and script have no fault, and a source that doesn't fail.
pub record IsRightRun (f : Facts) : Type 0 where
  pub text : List ℕ
  pub image : List ℕ
  pub script : Script
  pub text_is : f.left ≡ Some text
  pub language : script_in text ≡ Ok script
  pub image_is : f.rig.image ≡ Some image
  pub head : head_fault (head_of image) ≡ None
  pub volume : table_fault script.entries (devices_of image) script.block ≡ None
  pub lines : binding_fault script (table_over script.entries (devices_of image)) (devices_of image) ≡ None
  pub calm : Calm f.reads f.reads_after

abbrev pub run_work : Work dix
run_work = record {
  Yield = Finished;
  WasDone = λ run f. HasRunSource run (call_of f);
  status = λ run. done_status (has_bad run.stack.replies.items);
  text = λ run. report run.stack.replies.items;
  WasRefused = CauseNotRun;
  Answers = λ f s. IsRightRun f → RunsOrFails s;
}

-- ---- trace IMAGE: the same, and behind the report the records of the call

-- The script of the source was run, and these are the records of the call.
pub record HasTraced (run : Finished) (log : List LogEntry) (f : Facts) : Type 0 where
  pub ran : HasRunSource run (call_of f)
  pub log_is : f.rig_after.log ≡ f.rig.log ++ log

abbrev pub trace_work : Work dix
trace_work = record {
  Yield = Finished × List LogEntry;
  WasDone = λ x f. HasTraced x.0 x.1 f;
  status = λ x. done_status (has_bad x.0.stack.replies.items);
  text = λ x. report x.0.stack.replies.items ++ trace x.1;
  WasRefused = CauseNotRun;
  Answers = λ f s. IsRightRun f → RunsOrFails s;
}

-- ---- format IMAGE T:BLOCKS ..: the image was formatted with these units, and they were counted

abbrev pub format_work : List UnitSpec → Work dix
format_work us = record {
  Yield = Unit {0};
  WasDone = λ x f. WasFormatted (image_in f.words) us f.rig f.rig_after × LeavesSource f;
  status = λ x. status.Whole;
  text = λ x. codes "formatted " ++ (decimal (length us) ++ codes "\n");
  WasRefused = ByCause (CauseUnformatted us);
  Answers = λ f s. Calm f.rig.faults f.rig_after.faults → WholeOrWants s;
}

-- ---- migrate IMAGE: the header of the image was replaced, and its units were counted

abbrev pub migrate_work : Work dix
migrate_work = record {
  Yield = ℕ;
  WasDone = λ n f. WasMigrated (image_in f.words) n f.rig f.rig_after × LeavesSource f;
  status = λ n. status.Whole;
  text = λ n. codes "migrated " ++ (decimal n ++ codes "\n");
  WasRefused = ByCause CauseUnmigrated;
  Answers = λ f s. IsRightImage f → WholeOrWants s;
}

-- ---- mirror IMAGE: the script of the source was run on a mirror over the image, which was repaired then

-- A script in the language, an image whose head is right, over whose devices the volume has no fault and the script none on a mirror, and a source that doesn't fail.
pub record IsRightMirror (f : Facts) : Type 0 where
  pub text : List ℕ
  pub image : List ℕ
  pub script : Script
  pub text_is : f.left ≡ Some text
  pub language : script_in text ≡ Ok script
  pub image_is : f.rig.image ≡ Some image
  pub head : head_fault (head_of image) ≡ None
  pub volume : table_fault script.entries (devices_of image) script.block ≡ None
  pub lines : mirror_fault script (table_over script.entries (devices_of image)) (devices_of image) ≡ None
  pub calm : Calm f.reads f.reads_after

abbrev pub mirror_work : Work dix
mirror_work = record {
  Yield = Mirrored;
  WasDone = λ run f. HasMirroredSource run (call_of f);
  status = λ run. done_status (is_any_lost run.mirror.replies.items run.repair.lost);
  text = λ run. mirror_text run.mirror.replies.items run.repair.repaired run.repair.lost;
  WasRefused = CauseNotMirrored;
  Answers = λ f s. IsRightMirror f → RunsOrFails s;
}

-- ---- scrub IMAGE: every stored block of the image was looked at, and those at fault were listed

abbrev pub scrub_work : Work dix
scrub_work = record {
  Yield = List DeviceInfo × List Found;
  WasDone = λ x f. WasScrubbed (image_in f.words) x.0 x.1 f.rig f.rig_after × LeavesSource f;
  status = λ x. done_status (has_some x.1);
  text = λ x. scrub_text x.0 x.1;
  WasRefused = ByCause CauseUnscrubbed;
  Answers = λ f s. IsRightImage f → RunsOrWants s;
}

-- ---- nvme IMAGE: the NVM commands of the source were done on the image

-- Lines whose metadata fit their commands, an image whose head is right, and no fault of store and source.
pub record IsRightNvme (f : Facts) : Type 0 where
  pub text : List ℕ
  pub image : List ℕ
  pub lines : List NvmLine
  pub text_is : f.left ≡ Some text
  pub language : text_in text ≡ Ok lines
  pub image_is : f.rig.image ≡ Some image
  pub head : head_fault (head_of image) ≡ None
  pub fit : misfit (map info_of (units_of (head_of image))) lines ≡ None
  pub reads : Calm f.reads f.reads_after
  pub calm : Calm f.rig.faults f.rig_after.faults

-- whether a command failed, and the completions as text
abbrev pub nvme_work : Work dix
nvme_work = record {
  Yield = Bool × List ℕ;
  WasDone = λ x f. WereDone (image_in f.words) x.1 x.0 f.left f.left_after f.reads f.reads_after f.rig f.rig_after;
  status = λ x. done_status x.0;
  text = λ x. x.1;
  WasRefused = CauseNotCommanded;
  Answers = λ f s. IsRightNvme f → RunsOrWants s;
}

-- ---- modes T: the map of the type was told, whose finders are the first that find a flip; the rig and the source are as before

abbrev pub modes_work : PiType → Work dix
modes_work ty = record {
  Yield = Unit {0};
  WasDone = λ x f. AreFirstFinders ty × (f.rig_after ≡ f.rig) × LeavesSource f;
  status = λ x. status.Whole;
  text = λ x. modes_text ty;
  WasRefused = WantsMemory;
  Answers = λ f s. WholeOrWants s;
}

-- ---- big N SEED: the script that the numbers make was run over a rig of the call's own; the rig and the source are as before

abbrev pub big_work : ℕ → ℕ → Work dix
big_work n seed = record {
  Yield = BigRun;
  WasDone = λ b f. RanBig n seed b × (f.rig_after ≡ f.rig) × LeavesSource f;
  status = λ b. done_status b.has_bad;
  text = λ b. big_text n seed b;
  WasRefused = WantsMemory;
  Answers = λ f s. WholeOrWants s;
}

-- ---- a call

-- what words come to
abbrev pub work_of : Option Command → Work dix
work_of None = no_command
work_of (Some Run) = run_work
work_of (Some Trace) = trace_work
work_of (Some (Format us)) = format_work us
work_of (Some Migrate) = migrate_work
work_of (Some Mirror) = mirror_work
work_of (Some Scrub) = scrub_work
work_of (Some Nvme) = nvme_work
work_of (Some (Modes ty)) = modes_work ty
work_of (Some (Big n seed)) = big_work n seed

-- A call came to a verdict of what its words say, whose cause holds, and then wrote its text.
abbrev pub Ended : Facts → (old new : Option (List ℕ)) → (o n : ℕ) → Status → Type 0
Ended f old new o n result = EndedAs dix (work_of (command_in f.words)) f old new o n result
