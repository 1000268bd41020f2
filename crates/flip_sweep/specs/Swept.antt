-- The text of a sweep, by byte, units and script alone.
use Rattle.std.specs.Prelude.{ℕ, zero, suc, ◌≡◌, ◌+◌, ◌⊎◌, ltb, Bool, List, [], ◌∷◌, ◌++◌, Option, Some, None, Result, Ok, Err}
use Rattle.dix_base.specs.Told.{Appended, AppendedSome, Rose}
use Rattle.image_laws.specs.Over.{volume_over}
use Rattle.script_text.specs.Bindings.{binding_fault}
use Rattle.script_text.specs.declared.fault.ScriptFault.{ScriptFault}
use Rattle.script_text.specs.declared.script.Script.{Script}
use Rattle.run_command.specs.Verdict.{devices_of}
use Rattle.call_refusal.specs.declared.refusal.Refusal.{Refusal}
use Rattle.call_refusal.specs.declared.refusal.Refusal.TheVariants as refusal
use Rattle.rig_api.specs.Image.{formatted}
use Rattle.rig_api.specs.declared.units.UnitSpec.{UnitSpec}
use Rattle.volume_table.specs.Faults.{table_fault}
use Rattle.volume_table.specs.Tables.{MadeFor}
use Rattle.volume_table.specs.declared.fault.VolumeFault.TheVariants.{At}
use Rattle.flip_sweep.specs.Comes.{came_to}
use Rattle.flip_sweep.specs.Flips.{own_fault, sites_of, with_flip}
use Rattle.flip_sweep.specs.Rows.{all_counted, first_line, last_line, none_yet, rows, stretches}
use Rattle.flip_sweep.specs.Verdicts.{verdict_of}
use Rattle.flip_sweep.specs.declared.counts.Counts.{Counts}
use Rattle.flip_sweep.specs.declared.flips.Site.{Site}
use Rattle.flip_sweep.specs.declared.sweep.Halt.{Halt}
use Rattle.flip_sweep.specs.declared.sweep.Halt.TheVariants as halt
use Rattle.flip_sweep.specs.declared.sweep.Unswept.{Unswept}
use Rattle.flip_sweep.specs.declared.sweep.Unswept.TheVariants as unswept
use Rattle.flip_sweep.specs.declared.verdict.Verdict.{Verdict}
use Rattle.pi_tuple.specs.declared.TheConstants.{TUPLE}

-- what is swept: the byte by which others are altered, the units, and the script
pub record Sweep : Type 0 where
  pub byte : ℕ
  pub units : List UnitSpec
  pub script : Script

-- What the flip of byte `off` comes to: the script's run over the freshly formatted units, as it is and with that fault.
abbrev pub verdict_at : Sweep → Site → (off : ℕ) → Verdict
verdict_at w at off = verdict_of w.units (came_to w.script w.units) (came_to (with_flip w.script at off w.byte) w.units)

-- so for n bytes from this one on
abbrev pub verdicts_from : Sweep → Site → (off n : ℕ) → List Verdict
verdicts_from w at off zero = []
verdicts_from w at off (suc n) = verdict_at w at off ∷ verdicts_from w at (off + 1) n

-- and for each byte of a frame: a block and eight bytes
abbrev pub verdicts_at : Sweep → Site → List Verdict
verdicts_at w at = verdicts_from w at 0 (w.script.block + TUPLE)

abbrev pub rows_at : Sweep → Site → List ℕ
rows_at w at = rows at (stretches (verdicts_at w at))

abbrev pub all_rows : Sweep → List Site → List ℕ
all_rows w [] = []
all_rows w (at ∷ sites) = rows_at w at ++ all_rows w sites

abbrev pub counts_with : Sweep → Counts → List Site → Counts
counts_with w c [] = c
counts_with w c (at ∷ sites) = counts_with w (all_counted c (verdicts_at w at)) sites

-- how many flips come to what
abbrev pub counts_of : Sweep → Counts
counts_of w = counts_with w none_yet (sites_of w.script)

-- the text
abbrev pub sweep_text : Sweep → List ℕ
sweep_text w = first_line ++ (all_rows w (sites_of w.script) ++ last_line (counts_of w))

-- some flip is seen by nobody
abbrev pub has_unseen : Sweep → Bool
has_unseen w = ltb 0 (counts_of w).unseen

-- what is said of counts, where all flips were counted
abbrev pub unseen_in : Result Counts Halt → Result Bool Unswept
unseen_in (Ok c) = Ok (ltb 0 c.unseen)
unseen_in (Err h) = Err (unswept.Halted h)

-- Why a script comes to no run over an image that is right: an entry of its volume is at fault over it, the first; none is, and a line of the script has a fault over the volume, the first; or there is no memory.
abbrev pub CauseNoRun : Refusal → Script → (image : List ℕ) → Type 0
CauseNoRun (refusal.Script bad) s image = MadeFor (volume_over s image) (devices_of image) s.block × (binding_fault s (volume_over s image) (devices_of image) ≡ Some bad)
CauseNoRun (refusal.Volume entry kind) s image = table_fault s.entries (devices_of image) s.block ≡ Some (At entry kind)
CauseNoRun refusal.Memory s image = Unit {0}
CauseNoRun _ s image = ⊥

-- Why a script isn't swept: it has a `fault`, `shift` or `overwrite` line of its own; or it comes to no run over the formatted units.
abbrev pub CauseUnswept : Refusal → Sweep → Type 0
CauseUnswept r w = ((bad : ScriptFault) × (own_fault w.script ≡ Some bad) × (r ≡ refusal.Script bad)) ⊎ ((own_fault w.script ≡ None) × CauseNoRun r w.script (formatted w.units))

-- The script has no such line of its own.
abbrev pub IsFree : Sweep → Type 0
IsFree w = own_fault w.script ≡ None

-- How a sweep ends: its text was written, and whether a flip is seen by nobody is so; nothing was written, for a cause; or the beginning of the text was written, as the sink failed, whose count rose, or there was no memory.
abbrev pub SweepEnds : Result Bool Unswept → Sweep → (sinks sinks_after : ℕ) → (old new : Option (List ℕ)) → Type 0
SweepEnds (Ok unseen) w p q old new = IsFree w × (unseen ≡ has_unseen w) × Appended (sweep_text w) old new
SweepEnds (Err (unswept.Stopped r)) w p q old new = CauseUnswept r w × (new ≡ old) × (q ≡ p)
SweepEnds (Err (unswept.Halted halt.Memory)) w p q old new = IsFree w × AppendedSome (sweep_text w) old new
SweepEnds (Err (unswept.Halted halt.Sink)) w p q old new = IsFree w × Rose p q × AppendedSome (sweep_text w) old new
