-- A text with two writes of one block and a read of it, of which the disk stores the first one elsewhere and loses the second, over a formatted image of two blocks: it meets the premises under which a disk may lie, and not those under which it may not.
use Rattle.std.proofs.Common.{◌≡◌, zero, suc, true, false, List, [], ◌∷◌, None, refl, arith, pos}
use Rattle.std.specs.Prelude.{Ok, codes}
use Rattle.pi_guard.specs.Guards.{crc, ip}
use Rattle.pi_guard.specs.declared.GuardKind.TheVariants.{Crc}
use Rattle.pi_tuple.specs.declared.checks.PiType.TheVariants.{One}
use Rattle.fault_schedule.specs.declared.fault.Crossing.TheVariants.{TargetToMedium}
use Rattle.fault_schedule.specs.declared.fault.FaultKind.TheVariants.{Keep, Shift}
use Rattle.page_pool.specs.Places.{run}
use Rattle.rig_api.specs.Headers.{header}
use Rattle.rig_api.specs.Image.{fresh, formatted, units_in}
use Rattle.rig_api.specs.Passing.{found_in, from_medium, to_medium}
use Rattle.rig_api.specs.Target.{Stored}
use Rattle.rig_api.specs.declared.units.UnitSpec.{UnitSpec}
use Rattle.call_refusal.specs.Passed.{info_of}
use Rattle.block_path.specs.WayIn.{from_wire}
use Rattle.block_path.specs.WayOut.{to_wire}
use Rattle.stack_walk_laws.specs.Passed.{blocks_told}
use Rattle.stack_ops.specs.declared.op.Op.TheVariants.{Fetch, Write}
use Rattle.volume_table.specs.Tables.{Table}
use Rattle.volume_table.specs.declared.device.DeviceInfo.{DeviceInfo}
use Rattle.volume_table.specs.declared.entry.Entry.TheVariants.{Linear}
use Rattle.walk_laws.specs.UnderMap.{AreClean, IsClean}
use Rattle.run_laws.proofs.CleanWhereRead.{on_read_volume}
use Rattle.script_text.specs.Bindings.{binding_fault}
use Rattle.script_text.specs.Language.{line_taken, script_in, taken}
use Rattle.script_lines.specs.Forms.{app_form, block_form, limits_form, linear_form, lose_form, mode_form, pages_form, place_form, read_form, shift_form, write_form}
use Rattle.script_text.specs.declared.script.Script.{Script}
use Rattle.run_premises.specs.Forms.{shows_by_form}
use Rattle.run_command.specs.Premises.{IsAccountableRun, IsAccountedByForm, setting_told}
use Rattle.run_command.specs.Verdict.{table_over}

abbrev unit : UnitSpec
unit = record { ty = One; blocks = 2; size = 512; first = 0 }

abbrev us : List Stored
us = record { ty = One; size = 512; first = 0; blocks = fresh One 512 0 ∷ (fresh One 512 1 ∷ []) } ∷ []

told : units_in (unit ∷ []) (formatted (unit ∷ [])) ≡ us
unfolding formatted header
told = refl

abbrev devices : List DeviceInfo
devices = info_of unit ∷ []

abbrev lying : Script
lying = record {
  mode = record { kind = Crc; dix = true; dif = true; protect = 1; app = 0; mask = 0 };
  limits = record { max_blocks = 1; max_segs = 4; max_pi_segs = 1 };
  pages = 1;
  block = 512;
  expect_line = 0;
  entries = Linear (record { start = 0; len = 1; dev = 0; at = 0 }) ∷ [];
  faults = record { op = 1; k = 0; at = TargetToMedium; kind = Shift (pos 1) } ∷ (record { op = 2; k = 0; at = TargetToMedium; kind = Keep 0 } ∷ []);
  schedule = [];
  ops = Write 0 1 (record { page = 0; off = 0; len = 512 } ∷ []) 0 ∷ (Write 0 1 (record { page = 0; off = 0; len = 512 } ∷ []) 0 ∷ (Fetch 0 1 (record { page = 0; off = 0; len = 512 } ∷ []) ∷ []));
  lines = 7 ∷ (8 ∷ (10 ∷ (11 ∷ (12 ∷ []))));
}

read : script_in (codes "dix 3\nmode crc on on 1\nlimits 1 4 1\npages 1\nblock 512\nlinear 0 1 dev 0 at 0\nshift 1 medium 1\nlose 2 0\nbegin\nwrite 0 1 0:0:512\nwrite 0 1 0:0:512\nread 0 1 0:0:512\n") ≡ Ok lying
unfolding line_taken taken mode_form limits_form pages_form block_form linear_form place_form write_form app_form read_form shift_form lose_form
read = refl

abbrev table : Table
table = table_over lying.entries devices

bound : binding_fault lying table devices ≡ None
bound = refl

block_clean : IsClean (setting_told lying table us) 0 (fresh One 512 0)
unfolding crc
block_clean = record { no_escape = refl; guard = refl; app = refl; rtag = λ h. refl }

volume_clean : AreClean (setting_told lying table us) (blocks_told us)
volume_clean zero l t = block_clean
volume_clean (suc v) l t = absurd (omega arith)

pub accountable_row : IsAccountableRun lying table devices us
unfolding crc ip found_in to_medium from_medium to_wire from_wire run
accountable_row = record {
  ty = refl;
  dix = refl;
  dif = refl;
  protect = refl;
  clean = on_read_volume (setting_told lying table us) devices (blocks_told us) refl (λ op. refl) (λ op. refl) volume_clean;
  no_escape = ((λ h. refl, tt), ((λ h. refl, tt), ((tt, tt), tt)));
  accounted = refl;
}

by_form_row : IsAccountedByForm lying table devices us
by_form_row = record { ty = refl; dix = refl; dif = refl; protect = refl; form = refl; escapes = refl; clean = volume_clean }

not_shown_row : shows_by_form lying.mode.kind lying.block lying.faults lying.ops ≡ false
not_shown_row = refl
