-- A script with a write and a read of one block, over a formatted unit of sixteen: it has all that the laws of flips ask.
use Rattle.std.proofs.Common.{◌≡◌, ℕ, true, List, [], ◌∷◌, map, None, refl, sym, subst, arith}
use Rattle.std.specs.Prelude.{Ok, codes}
use Rattle.hex.specs.Hex.{decode_pairs}
use Rattle.pi_guard.specs.declared.GuardKind.TheVariants.{Crc}
use Rattle.pi_tuple.specs.declared.checks.PiType.TheVariants.{One}
use Rattle.stack_ops.specs.declared.op.Op.TheVariants.{Fetch, Fill, Write}
use Rattle.rig_api.specs.Headers.{is_layout}
use Rattle.rig_api.specs.Image.{formatted}
use Rattle.rig_api.specs.declared.units.UnitSpec.{UnitSpec}
use Rattle.rig_discovery.specs.Discovery.{info_of}
use Rattle.volume_table.specs.Faults.{table_fault}
use Rattle.volume_table.specs.declared.device.DeviceInfo.{DeviceInfo}
use Rattle.volume_table.specs.declared.entry.Entry.TheVariants.{Linear}
use Rattle.script_lines.specs.Forms.{app_form, fill_form, limits_form, linear_form, mode_form, pages_form, place_form, read_form, write_form}
use Rattle.script_laws.proofs.Keeping.{read_keeps}
use Rattle.script_text.specs.Bindings.{binding_fault}
use Rattle.script_text.specs.Language.{line_taken, script_in, taken}
use Rattle.script_text.specs.declared.script.Script.{Script}
use Rattle.image_laws.specs.Passed.{devices_of, table_over}
use Rattle.image_laws.proofs.Told.{devices_back}
use Rattle.flip_sweep.specs.Swept.{Sweep}
use Rattle.lab_laws.specs.Flips.{IsPlainSweep, IsQuietSweep}
use Rattle.lab_laws.proofs.NoneListed.{plain_quiet}

abbrev units : List UnitSpec
units = record { ty = One; blocks = 16; size = 512; first = 0 } ∷ []

abbrev script : Script
script = record {
  mode = record { kind = Crc; dix = true; dif = true; protect = 1; app = 0; mask = 0 };
  limits = record { max_blocks = 64; max_segs = 16; max_pi_segs = 16 };
  pages = 2;
  block = 512;
  expect_line = 0;
  entries = Linear (record { start = 0; len = 4; dev = 0; at = 8 }) ∷ [];
  faults = [];
  schedule = [];
  ops =
      Fill (record { page = 0; off = 0; len = 512 }) 165
      ∷ Write 0 1 (record { page = 0; off = 0; len = 512 } ∷ []) 0
      ∷ Fetch 0 1 (record { page = 1; off = 0; len = 512 } ∷ [])
      ∷ [];
  lines = 7 ∷ 8 ∷ 9 ∷ [];
}

abbrev text : List ℕ
text = codes "dix 1\nmode crc on on 1\nlimits 64 16 16\npages 2\nlinear 0 4 dev 0 at 8\nbegin\nfill 0:0:512 a5\nwrite 0 1 0:0:512\nread 0 1 1:0:512\n"

is_read : script_in text ≡ Ok script
unfolding line_taken taken mode_form limits_form pages_form linear_form place_form fill_form write_form app_form read_form decode_pairs
is_read = refl

abbrev swept : Sweep
swept = record { byte = 1; units = units; script = script }

laid : is_layout units ≡ true
laid = refl

-- what is asked of the script over devices
abbrev volume_is : List DeviceInfo → Type 0
volume_is ds = table_fault script.entries ds 512 ≡ None

abbrev lines_are : List DeviceInfo → Type 0
lines_are ds = binding_fault script (table_over script.entries ds) ds ≡ None

abbrev type_is : List DeviceInfo → Type 0
type_is ds = (table_over script.entries ds).ty ≡ One

same : devices_of (formatted units) ≡ map info_of units
same = devices_back units laid

pub example_plain : IsPlainSweep swept
example_plain = record {
  guarded = record {
    layout = laid;
    sound = record { keeps = (read_keeps text script is_read).keeps; lines = refl };
    volume = subst volume_is (sym same) refl;
    lines = subst lines_are (sym same) refl;
    own = refl;
    ty = subst type_is (sym same) refl;
    dix = refl;
    dif = refl;
    protect = refl;
    byte = omega arith;
    byte_fits = omega arith;
  };
  expect = refl;
  escapes = refl;
}

pub example_quiet : IsQuietSweep swept
example_quiet = plain_quiet swept example_plain
