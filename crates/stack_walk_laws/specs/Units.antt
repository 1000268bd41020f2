-- The units behind the adapter of a script: each block of a request lies in the unit of its device, also where a fault shifts it.
use Rattle.std.specs.Prelude.{◌≡◌, ℕ, suc, ◌<◌, ℤ, pos, ◌+ℤ◌, true, List, length, get_or}
use Rattle.fault_schedule.specs.Altered.{shift_of}
use Rattle.fault_schedule.specs.declared.fault.Crossing.TheVariants.{AdapterToTarget, MediumToTarget, TargetToMedium}
use Rattle.block_path.specs.Passed.{has_blocks, UnitSpec}
use Rattle.dix_adapter.specs.Passed.{no_spec}
use Rattle.run_laws.specs.Passed.{Setting, block_of, route, Op, first_virt}
use Rattle.run_laws.specs.ScriptMoves.{fates_of}
use Rattle.stack_walk_laws.specs.Spots.{op_in}

-- The unit behind a device is of the volume's type, with blocks of its size, and has a block at this address.
pub record IsAtUnit (m : Setting) (units : List UnitSpec) (dev : ℕ) (lba : ℤ) : Type 0 where
  pub ty : (get_or units dev no_spec).ty ≡ m.ty
  pub size : (get_or units dev no_spec).size ≡ m.size
  pub there : has_blocks (get_or units dev no_spec) lba 1 ≡ true

-- So it is of each block of a request, where the op's shifts lead the command, and where they lead it on the medium.
pub record AreAtUnits (m : Setting) (units : List UnitSpec) (ops : List Op) : Type 0 where
  pub sent : (i k : ℕ) → i < length ops → k < fates_of (op_in ops i)
      → let r = route m (block_of (suc i) (first_virt (op_in ops i)) k) in IsAtUnit m units r.dev (pos r.lba +ℤ shift_of m.site.faults AdapterToTarget (suc i))
  pub fetched : (i k : ℕ) → i < length ops → k < fates_of (op_in ops i)
      → let r = route m (block_of (suc i) (first_virt (op_in ops i)) k) in IsAtUnit m units r.dev ((pos r.lba +ℤ shift_of m.site.faults AdapterToTarget (suc i)) +ℤ shift_of m.site.faults MediumToTarget (suc i))
  pub stored : (i k : ℕ) → i < length ops → k < fates_of (op_in ops i)
      → let r = route m (block_of (suc i) (first_virt (op_in ops i)) k) in IsAtUnit m units r.dev ((pos r.lba +ℤ shift_of m.site.faults AdapterToTarget (suc i)) +ℤ shift_of m.site.faults TargetToMedium (suc i))
