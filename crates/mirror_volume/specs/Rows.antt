use Rattle.std.specs.Prelude.{ℕ, true, List, [], ◌∷◌}
use Rattle.pi_guard.specs.declared.GuardKind.TheVariants.{Crc}
use Rattle.pi_tuple.specs.declared.checks.PiType.TheVariants.{One}
use Rattle.fault_schedule.specs.declared.fault.Crossing.TheVariants.{HostToAdapter, TargetToMedium}
use Rattle.fault_schedule.specs.declared.fault.FaultKind.TheVariants.{Fail, Flip}
use Rattle.rig_api.specs.Image.{fresh}
use Rattle.rig_api.specs.Target.{Stored}
use Rattle.rig_api.specs.declared.units.UnitSpec.{UnitSpec}
use Rattle.rig_discovery.specs.Discovery.{info_of}
use Rattle.stack_ops.specs.declared.op.Op.TheVariants.{Fetch, Write}
use Rattle.volume_table.specs.declared.device.DeviceInfo.{DeviceInfo}
use Rattle.volume_table.specs.declared.entry.Entry.TheVariants.{Linear}
use Rattle.script_text.specs.declared.script.Script.{Script}

-- A script with a write and a read of the one block of a mirror, over two formatted units: the block's data are altered on their way to leg 0, which refuses them.
-- It is bound as a mirror's, and meets the premises (`premises_of_a_mirror_can_be_met`).

abbrev pub unit : UnitSpec
unit = record { ty = One; blocks = 1; size = 512; first = 0 }

abbrev pub stored : Stored
stored = record { ty = One; size = 512; first = 0; blocks = fresh One 512 0 ∷ [] }

abbrev pub us : List Stored
us = stored ∷ stored ∷ []

abbrev pub devices : List DeviceInfo
devices = info_of unit ∷ info_of unit ∷ []

abbrev pub script : Script
script = record {
  mode = record { kind = Crc; dix = true; dif = true; protect = 1; app = 0; mask = 0 };
  limits = record { max_blocks = 1; max_segs = 4; max_pi_segs = 1 };
  pages = 1;
  block = 512;
  expect_line = 0;
  entries = Linear (record { start = 0; len = 1; dev = 0; at = 0 }) ∷ Linear (record { start = 1; len = 1; dev = 1; at = 0 }) ∷ [];
  faults = record { op = 1; k = 0; at = HostToAdapter; kind = Flip 0 (1 ∷ []) } ∷ [];
  schedule = [];
  ops = Write 0 1 (record { page = 0; off = 0; len = 512 } ∷ []) 0 ∷ Fetch 0 1 (record { page = 0; off = 0; len = 512 } ∷ []) ∷ [];
  lines = 7 ∷ 9 ∷ 10 ∷ [];
}

-- The same ops, where the medium of leg 0 fails the block of the write.
abbrev pub failing_script : Script
failing_script = record script { faults = record { op = 1; k = 0; at = TargetToMedium; kind = Fail } ∷ [] }

-- The same ops without the fault, under protect fields under which no fault line is admitted.
abbrev pub still_script : (protect : ℕ) → Script
still_script protect = record script { mode = record script.mode { protect = protect }; faults = []; lines = 9 ∷ 10 ∷ [] }
