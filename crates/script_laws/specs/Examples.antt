use Rattle.std.specs.Prelude.{ℕ, true, ◌≡◌, ◌++◌, List, [], ◌∷◌, codes, Option, Some, None, Result, Ok, Err}
use Rattle.pi_guard.specs.declared.GuardKind.TheVariants.{Crc}
use Rattle.pi_tuple.specs.declared.checks.PiType.{PiType}
use Rattle.pi_tuple.specs.declared.checks.PiType.TheVariants.{Zero as TypeZero, One as TypeOne}
use Rattle.script_text.specs.Passed.{Show, Write, FetchPi}
use Rattle.volume_table.specs.declared.device.DeviceInfo.{DeviceInfo}
use Rattle.volume_table.specs.declared.entry.Entry.TheVariants.{Linear, Stripe}
use Rattle.script_lines.specs.declared.kind.ScriptKind.{ScriptKind}
use Rattle.script_lines.specs.declared.kind.ScriptKind.TheVariants.{BadFault, BadNumber, BadRange, BadSegments, ExtraWord, MissingWord, NoHeader, NoIntegrity, OutOfPlace, SegOverlap}
use Rattle.script_text.specs.declared.fault.ScriptFault.{ScriptFault}
use Rattle.script_text.specs.declared.script.Script.{Script}
use Rattle.script_text.specs.Bindings.{binding_fault}
use Rattle.script_text.specs.Generator.{next_state}
use Rattle.script_text.specs.Language.{script_in}

-- Small texts and what they are, by the definition alone.

abbrev pub header : List ℕ
header = codes "dix 1\nmode crc on on 1\nlimits 64 16 16\npages 2\nlinear 0 64 dev 0 at 100\n"

-- the header, and these lines behind `begin`
abbrev pub with_ops : List ℕ → List ℕ
with_ops ops = header ++ (codes "begin\n" ++ ops)

abbrev pub at_line : ℕ → ScriptKind → Result Script ScriptFault
at_line line kind = Err (record { line = line; kind = kind })

-- the script of the header with a write that has a tag, a read with tuples and a look at them
abbrev pub tagged : Script
tagged = record {
  mode = record { kind = Crc; dix = true; dif = true; protect = 1; app = 0; mask = 0 };
  limits = record { max_blocks = 64; max_segs = 16; max_pi_segs = 16 };
  pages = 2;
  block = 512;
  expect_line = 0;
  entries = Linear (record { start = 0; len = 64; dev = 0; at = 100 }) ∷ [];
  faults = [];
  schedule = [];
  ops =
      Write 0 1 (record { page = 0; off = 0; len = 512 } ∷ []) 4660
      ∷ FetchPi 0 1 (record { page = 1; off = 0; len = 512 } ∷ []) (record { page = 1; off = 512; len = 8 } ∷ [])
      ∷ Show (record { page = 1; off = 512; len = 8 }) ∷ [];
  lines = 7 ∷ 8 ∷ 9 ∷ [];
}

-- an `over` line on two inner volumes, one of which has two extents
abbrev pub over_text : List ℕ
over_text = codes "dix 2\nmode crc on on 1\nlimits 64 16 16\npages 1\nblock 512\ninner 0 8 dev 0 at 0\ninner 0 8 dev 0 at 100\ninner 1 16 dev 1 at 0\nover 0 32 chunk 4 legs 0 1\nbegin\n"

-- its blocks lie as in two stripes
abbrev pub over_two : Script
over_two = record {
  mode = record { kind = Crc; dix = true; dif = true; protect = 1; app = 0; mask = 0 };
  limits = record { max_blocks = 64; max_segs = 16; max_pi_segs = 16 };
  pages = 1;
  block = 512;
  expect_line = 0;
  entries =
      Stripe (record { start = 0; len = 16; chunk = 4; legs = record { dev = 0; at = 0 } ∷ record { dev = 1; at = 0 } ∷ [] })
      ∷ Stripe (record { start = 16; len = 16; chunk = 4; legs = record { dev = 0; at = 100 } ∷ record { dev = 1; at = 8 } ∷ [] }) ∷ [];
  faults = [];
  schedule = [];
  ops = [];
  lines = [];
}

pub record ReadExamples : Type 0 where
  pub empty : script_in [] ≡ at_line 1 NoHeader
  pub only_comments : script_in (codes "# one\n\n  # two") ≡ at_line 4 NoHeader
  pub no_header : script_in (codes "mode crc on on 1\n") ≡ at_line 1 NoHeader
  pub header_alone : script_in header ≡ at_line 6 OutOfPlace
  pub leading_zero : script_in (codes "dix 1\nmode crc on on 1\nlimits 064 16 16\n") ≡ at_line 3 BadNumber
  pub word_missing : script_in (codes "dix 1\nmode crc on\n") ≡ at_line 2 MissingWord
  pub word_too_many : script_in (codes "dix 1\nmode crc on on 1 1\n") ≡ at_line 2 ExtraWord
  pub block_in_old : script_in (codes "dix 1\nmode crc on on 1\nlimits 64 16 16\npages 2\nblock 512\n") ≡ at_line 5 OutOfPlace
  pub tuples_without_dix : script_in (codes "dix 1\nmode crc off on 1\nlimits 64 16 16\npages 2\nlinear 0 64 dev 0 at 100\nbegin\nwrite 0 1 0:0:512 app 1234\n") ≡ at_line 7 NoIntegrity
  pub no_blocks : script_in (with_ops (codes "write 0 0 0:0:512\n")) ≡ at_line 7 BadRange
  pub page_missing : script_in (with_ops (codes "write 0 1 2:0:512\n")) ≡ at_line 7 BadSegments
  pub shared_byte : script_in (with_ops (codes "write 0 1 0:0:256,0:255:256\n")) ≡ at_line 7 SegOverlap
  pub whole : script_in (with_ops (codes "write 0 1 0:0:512 app 1234\nreadpi 0 1 1:0:512 1:512:8\nshow 1:512:8\n")) ≡ Ok tagged
  pub over_inner : script_in over_text ≡ Ok over_two

-- two devices of 256 blocks of 512 bytes and this type
abbrev pub two_units : PiType → List DeviceInfo
two_units ty = record { ty = ty; blocks = 256; size = 512; first = 0 } ∷ record { ty = ty; blocks = 256; size = 512; first = 0 } ∷ []

-- the fault of a text's script over its volume of these devices
abbrev pub bound : PiType → Result Script ScriptFault → Option ScriptFault
bound ty (Err fault) = Some fault
bound ty (Ok s) = binding_fault s (record { entries = s.entries; ty = ty }) (two_units ty)

abbrev pub with_fault : List ℕ → List ℕ
with_fault line = header ++ (line ++ codes "begin\nwrite 0 1 0:0:512\nread 0 1 1:0:512\n")

pub record BoundExamples : Type 0 where
  pub whole : bound TypeOne (script_in (with_ops (codes "write 63 1 0:0:512\n"))) ≡ None
  pub past_volume : bound TypeOne (script_in (with_ops (codes "write 64 1 0:0:512\n"))) ≡ Some (record { line = 7; kind = BadRange })
  pub no_such_op : bound TypeOne (script_in (with_fault (codes "fault 3 0 host flip 0 01\n"))) ≡ Some (record { line = 6; kind = BadFault })
  pub no_such_block : bound TypeOne (script_in (with_fault (codes "fault 2 1 host flip 0 01\n"))) ≡ Some (record { line = 6; kind = BadFault })
  pub shift_of_one : bound TypeOne (script_in (with_fault (codes "shift 2 medium 1\n"))) ≡ None
  pub shift_off_device : bound TypeOne (script_in (with_fault (codes "shift 2 medium -64\n"))) ≡ None
  pub shift_on_a_write : bound TypeOne (script_in (with_fault (codes "shift 1 medium 1\n"))) ≡ Some (record { line = 6; kind = BadFault })
  pub two_shifts : bound TypeOne (script_in (with_fault (codes "shift 2 wire 1\nshift 2 wire 2\n"))) ≡ Some (record { line = 7; kind = BadFault })
  pub other_type : bound TypeZero (script_in (with_fault (codes "shift 2 wire 1\n"))) ≡ Some (record { line = 6; kind = BadFault })
  pub no_such_device : bound TypeOne (script_in (with_ops (codes "overwrite 2 0 flip 0 01\n"))) ≡ Some (record { line = 7; kind = BadFault })
  pub past_device : bound TypeOne (script_in (with_ops (codes "overwrite 0 0 from 1 256\n"))) ≡ Some (record { line = 7; kind = BadFault })

-- the first states of the generator from 1, worked by hand
pub record StateExamples : Type 0 where
  pub first : next_state 1 ≡ 1015568748
  pub second : next_state 1015568748 ≡ 1586005467
  pub third : next_state 1586005467 ≡ 2165703038
  pub fourth : next_state 2165703038 ≡ 3027450565
  pub fifth : next_state 3027450565 ≡ 217083232
