use Rattle.std.specs.Prelude.{ℕ, ◌≡◌, ◌⊎◌, List, Option, Some, None, Ok, Err}
use Rattle.dix_base.specs.Told.{Calm}
use Rattle.flip_sweep.specs.Flips.{own_fault}
use Rattle.flip_sweep.specs.Swept.{CauseUnswept, Sweep as Swept, has_unseen, sweep_text}
use Rattle.flip_sweep.specs.declared.sweep.Halt.{Halt}
use Rattle.flip_sweep.specs.declared.sweep.Halt.TheVariants as halt
use Rattle.script_text.specs.Bindings.{binding_fault}
use Rattle.script_text.specs.Language.{script_in}
use Rattle.script_text.specs.declared.fault.ScriptFault.{ScriptFault}
use Rattle.script_text.specs.declared.script.Script.{Script}
use Rattle.run_command.specs.Verdict.{CauseUntaken, HasRead, devices_of, table_over}
use Rattle.rig_api.specs.Image.{formatted}
use Rattle.rig_api.specs.declared.units.UnitSpec.{UnitSpec}
use Rattle.volume_table.specs.Faults.{table_fault}
use Rattle.call_verdict.specs.Verdicts.{RunsOrWants, Work, done_status}
use Rattle.call_verdict.specs.declared.status.Status.{Status}
use Rattle.call_verdict.specs.declared.status.Status.TheVariants as status
use Rattle.lab_run.specs.Breaking.{cut_status, cut_text}
use Rattle.lab_run.specs.Calls.{Facts}
use Rattle.lab_run.specs.Telling.{RefusesInput}
use Rattle.lab_run.specs.Texts.{lab}
use Rattle.lab_run.specs.declared.refusal.Refusal.{Refusal}
use Rattle.lab_run.specs.declared.refusal.Refusal.TheVariants as refusal

-- ---- sweep BYTE T:BLOCKS ..: the script of the source was swept in memory, and who finds each flip was written

-- what is swept
abbrev pub swept : (byte : ℕ) → List UnitSpec → Script → Swept
swept byte units script = record { byte = byte; units = units; script = script }

-- a script, and where the text of its sweep ends
pub record Sweeping : Type 0 where
  pub script : Script
  pub broken : Option ℕ

-- The script of the source, which has no fault of its own, was swept. The text may end in its middle, as there may be no memory between two runs.
pub record HasSwept (x : Sweeping) (f : Facts) : Type 0 where
  pub read : HasRead x.script f.left f.left_after f.reads f.reads_after
  pub own : own_fault x.script ≡ None

-- Why nothing is swept: the source gives no script; or it was read to its end, and its script isn't swept.
abbrev pub CauseNotSwept : (byte : ℕ) → List UnitSpec → Refusal → Facts → Type 0
CauseNotSwept byte units (refusal.Stopped s) f = CauseUntaken s f.left f.left_after f.reads f.reads_after ⊎ ((script : Script) × HasRead script f.left f.left_after f.reads f.reads_after × CauseUnswept s (swept byte units script))
CauseNotSwept byte units _ f = ⊥

-- the status of a sweep that was broken off
abbrev pub halt_status : Halt → Status
halt_status halt.Memory = status.Memory
halt_status halt.Sink = status.WriteFault

-- What a call of `sweep` answers to texts that are told, if the source doesn't fail. Each of them may come to want of memory.
pub record SweepsTexts (units : List UnitSpec) (f : Facts) (s : Status) : Type 0 where
  -- a text with a fault gives 3
  pub wrong : (text : List ℕ) (bad : ScriptFault) → f.left ≡ Some text → script_in text ≡ Err bad → Calm f.reads f.reads_after → RefusesInput s
  -- so does a script with a `fault`, `shift` or `overwrite` line of its own
  pub own : (text : List ℕ) (script : Script) (bad : ScriptFault) → f.left ≡ Some text → script_in text ≡ Ok script → own_fault script ≡ Some bad → Calm f.reads f.reads_after → RefusesInput s
  -- a script that has none, and over the formatted units neither a fault nor one of its volume, gives 0 or 1
  pub right : (text : List ℕ) (script : Script) → f.left ≡ Some text → script_in text ≡ Ok script → own_fault script ≡ None → table_fault script.entries (devices_of (formatted units)) script.block ≡ None →
      binding_fault script (table_over script.entries (devices_of (formatted units))) (devices_of (formatted units)) ≡ None → Calm f.reads f.reads_after → RunsOrWants s

-- its record
abbrev pub sweep_work : (byte : ℕ) → List UnitSpec → Work lab
sweep_work byte units = record {
  Yield = Sweeping;
  WasDone = HasSwept;
  status = λ x. cut_status x.broken status.Memory (done_status (has_unseen (swept byte units x.script)));
  text = λ x. cut_text x.broken (sweep_text (swept byte units x.script));
  WasRefused = CauseNotSwept byte units;
  Answers = SweepsTexts units;
}
