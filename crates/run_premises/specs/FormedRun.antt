use Rattle.std.specs.Prelude.{◌≡◌, ◌%◌, ◌<◌, true, List, All}
use Rattle.fault_schedule.specs.declared.fault.FaultKind.{FaultKind}
use Rattle.fault_schedule.specs.declared.fault.FaultKind.TheVariants.{Flip, Shift, Keep, Fail}
use Rattle.fault_schedule.specs.declared.fault.FaultLine.{FaultLine}
use Rattle.stack_ops.specs.declared.op.Op.{Op}
use Rattle.volume_table.specs.Places.{volume_len}
use Rattle.block_path.specs.Acts.{State}
use Rattle.run_laws.specs.Passed.{AllFit, LiesInImage, Setting, AreClean, NoEscape}
use Rattle.run_laws.specs.ShownRun.{IsChecked}
use Rattle.run_premises.specs.Forms.{accounts_by_form, shows_by_form}

-- What is asked of a run so that its faults are shown by their form.

abbrev pub IsOfBytes : FaultKind → Type 0
IsOfBytes (Flip off bytes) = All (λ x. x < 256) bytes
IsOfBytes (Shift by) = Unit {0}
IsOfBytes (Keep bytes) = Unit {0}
IsOfBytes Fail = Unit {0}

-- The volume is of type 1, tuples pass all the way, commands have protect field 001b, and blocks have an even number of bytes.
-- What stands in the pages and on the volume is bytes, each block of the volume is clean, and no write supplies an escape. The faults have the form.
pub record HasFormedFaults (m : Setting) (ops : List Op) (opening : State) : Type 0 where
  pub checked : IsChecked m
  pub even : m.size % 2 ≡ 0
  pub flips : All (λ (line : FaultLine). IsOfBytes line.kind) m.site.faults
  pub pages : All (λ x. x < 256) opening.bytes
  pub lies : LiesInImage m (volume_len m.entries) opening.blocks
  pub clean : AreClean m opening.blocks
  pub fit : AllFit m ops
  pub no_escape : NoEscape m 1 ops opening
  pub form : shows_by_form m.mode.kind m.size m.site.faults ops ≡ true

-- The same, where the disk may also fail, lose and misdirect blocks.
pub record HasAccountedFaults (m : Setting) (ops : List Op) (opening : State) : Type 0 where
  pub checked : IsChecked m
  pub even : m.size % 2 ≡ 0
  pub flips : All (λ (line : FaultLine). IsOfBytes line.kind) m.site.faults
  pub pages : All (λ x. x < 256) opening.bytes
  pub lies : LiesInImage m (volume_len m.entries) opening.blocks
  pub clean : AreClean m opening.blocks
  pub fit : AllFit m ops
  pub no_escape : NoEscape m 1 ops opening
  pub form : accounts_by_form m.mode.kind m.size m.site.faults ops ≡ true
