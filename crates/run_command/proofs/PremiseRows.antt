-- A text with a write and a read of one block, and the same with a flip on the wire, over a formatted image of one block: each meets the premises of its half.
use Rattle.std.proofs.Common.{◌≡◌, ℕ, zero, suc, true, List, [], ◌∷◌, ◌++◌, None, refl, arith}
use Rattle.std.specs.Prelude.{Ok, codes}
use Rattle.hex.specs.Hex.{decode_pairs}
use Rattle.pi_guard.specs.Guards.{crc, ip}
use Rattle.pi_guard.specs.declared.GuardKind.TheVariants.{Crc}
use Rattle.pi_tuple.specs.declared.checks.PiType.TheVariants.{One}
use Rattle.fault_schedule.specs.declared.fault.Crossing.TheVariants.{AdapterToTarget}
use Rattle.fault_schedule.specs.declared.fault.FaultKind.TheVariants.{Flip}
use Rattle.fault_schedule.specs.declared.fault.FaultLine.{FaultLine}
use Rattle.page_pool.specs.Places.{run}
use Rattle.rig_api.specs.Headers.{header, is_header, specs_in}
use Rattle.rig_api.specs.Image.{fresh, formatted, units_in}
use Rattle.rig_api.specs.Passing.{found_in, from_medium, to_medium}
use Rattle.rig_api.specs.Target.{Stored}
use Rattle.rig_api.specs.declared.units.UnitSpec.{UnitSpec}
use Rattle.rig_api.specs.Head.{head_fault, head_of}
use Rattle.call_refusal.specs.Passed.{info_of}
use Rattle.block_path.specs.WayIn.{from_wire}
use Rattle.block_path.specs.WayOut.{to_wire}
use Rattle.stack_walk_laws.specs.Passed.{blocks_told}
use Rattle.stack_ops.specs.declared.op.Op.TheVariants.{Fetch, Write}
use Rattle.volume_table.specs.Faults.{table_fault}
use Rattle.volume_table.specs.Tables.{Table}
use Rattle.volume_table.specs.declared.device.DeviceInfo.{DeviceInfo}
use Rattle.volume_table.specs.declared.entry.Entry.TheVariants.{Linear}
use Rattle.walk_laws.specs.UnderMap.{AreClean, IsClean}
use Rattle.run_laws.proofs.CleanWhereRead.{on_clean_volume}
use Rattle.script_form_laws.proofs.Passed.{no_shift}
use Rattle.script_text.specs.Bindings.{binding_fault}
use Rattle.script_text.specs.Language.{line_taken, script_in, taken}
use Rattle.script_lines.specs.Forms.{app_form, fault_form, flip_form, limits_form, linear_form, mode_form, pages_form, place_form, read_form, write_form}
use Rattle.script_text.specs.declared.script.Script.{Script}
use Rattle.run_command.specs.Premises.{IsDetectableRun, IsFormedRun, IsPlainRun, setting_told}
use Rattle.run_command.specs.Verdict.{devices_of, table_over}

-- ---- the image

abbrev unit : UnitSpec
unit = record { ty = One; blocks = 1; size = 512; first = 0 }

abbrev us : List Stored
us = record { ty = One; size = 512; first = 0; blocks = fresh One 512 0 ∷ [] } ∷ []

told : units_in (unit ∷ []) (formatted (unit ∷ [])) ≡ us
unfolding formatted header
told = refl

abbrev devices : List DeviceInfo
devices = info_of unit ∷ []

-- its head is right, and tells these devices
head_right : head_fault (head_of (formatted (unit ∷ []))) ≡ None
unfolding formatted header head_fault is_header specs_in
head_right = refl

devices_are : devices_of (formatted (unit ∷ [])) ≡ devices
unfolding formatted header specs_in
devices_are = refl

-- ---- the scripts

abbrev script : (faults : List FaultLine) → (lines : List ℕ) → Script
script faults lines = record {
  mode = record { kind = Crc; dix = true; dif = true; protect = 1; app = 0; mask = 0 };
  limits = record { max_blocks = 1; max_segs = 4; max_pi_segs = 1 };
  pages = 1;
  block = 512;
  expect_line = 0;
  entries = Linear (record { start = 0; len = 1; dev = 0; at = 0 }) ∷ [];
  faults = faults;
  schedule = [];
  ops = Write 0 1 (record { page = 0; off = 0; len = 512 } ∷ []) 0 ∷ Fetch 0 1 (record { page = 0; off = 0; len = 512 } ∷ []) ∷ [];
  lines = lines;
}

abbrev front : List ℕ
front = codes "dix 1\nmode crc on on 1\nlimits 1 4 1\npages 1\nlinear 0 1 dev 0 at 0\n"

abbrev ops : List ℕ
ops = codes "begin\nwrite 0 1 0:0:512\nread 0 1 0:0:512\n"

abbrev still : Script
still = script [] (7 ∷ 8 ∷ [])

abbrev faulty : Script
faulty = script (record { op = 1; k = 0; at = AdapterToTarget; kind = Flip 0 (1 ∷ []) } ∷ []) (6 ∷ 8 ∷ 9 ∷ [])

still_read : script_in (front ++ ops) ≡ Ok still
unfolding line_taken taken mode_form limits_form pages_form linear_form place_form write_form app_form read_form
still_read = refl

faulty_read : script_in (front ++ (codes "fault 1 0 wire flip 0 01\n" ++ ops)) ≡ Ok faulty
unfolding line_taken taken mode_form limits_form pages_form linear_form place_form write_form app_form read_form fault_form flip_form decode_pairs
faulty_read = refl

-- over the devices of the image neither has a fault
abbrev table : Table
table = table_over still.entries devices

no_fault : table_fault still.entries devices 512 ≡ None
no_fault = refl

still_bound : binding_fault still table devices ≡ None
still_bound = refl

faulty_bound : binding_fault faulty table devices ≡ None
faulty_bound = refl

-- ---- what is stored

block_clean : IsClean (setting_told still table us) 0 (fresh One 512 0)
unfolding crc
block_clean = record { no_escape = refl; guard = refl; app = refl; rtag = λ h. refl }

clean : AreClean (setting_told still table us) (blocks_told us)
clean zero l t = block_clean
clean (suc v) l t = absurd (omega arith)

-- ---- the premises

plain_row : IsPlainRun still table us
plain_row = record {
  quiet = record { faults = refl; overwrites = refl; clean = clean };
  no_escape = ((λ h. refl, tt), ((tt, tt), tt));
}

faulty_clean : IsClean (setting_told faulty table us) 0 (fresh One 512 0)
unfolding crc
faulty_clean = record { no_escape = refl; guard = refl; app = refl; rtag = λ h. refl }

volume_clean : AreClean (setting_told faulty table us) (blocks_told us)
volume_clean zero l t = faulty_clean
volume_clean (suc v) l t = absurd (omega arith)

detectable_row : IsDetectableRun faulty table devices us
unfolding crc ip found_in to_medium from_medium to_wire from_wire run
detectable_row = record {
  ty = refl;
  dix = refl;
  dif = refl;
  protect = refl;
  clean = on_clean_volume (setting_told faulty table us) devices (blocks_told us) refl (no_shift faulty.mode.kind faulty.block faulty.faults faulty.ops faulty.faults refl) volume_clean;
  no_escape = ((λ h. refl, tt), ((tt, tt), tt));
  shown = refl;
}

formed_row : IsFormedRun faulty table devices us
unfolding crc
formed_row = record { ty = refl; dix = refl; dif = refl; protect = refl; form = refl; escapes = refl; clean = volume_clean }
