use Rattle.std.specs.Prelude.{ℕ, eqb, if◌then◌else◌}
use Rattle.pi_tuple.specs.Finds.{is_zero}
use Rattle.pi_tuple.specs.declared.checks.PiType.{PiType}
use Rattle.pi_tuple.specs.declared.checks.PiType.TheVariants.{Two}
use Rattle.cdb_codec.specs.Rule.{chosen, in_32, is_two}
use Rattle.cdb_codec.specs.declared.command.Cdb.{Cdb}
use Rattle.cdb_codec.specs.declared.command.Rw.{Rw}
use Rattle.cdb_codec.specs.declared.choice.Dir2.{Dir2}
use Rattle.cdb_codec.specs.declared.choice.Dir2.TheVariants.{In, Out}
use Rattle.nvme_front.specs.Commands.{is_write}
use Rattle.nvme_front.specs.declared.command.NvmCommand.{NvmCommand}

-- The SCSI command that stands for an NVM command (SBC-3, RDPROTECT and WRPROTECT).

-- 011b checks nothing, 100b the guard, 001b all that the type has; a unit of type 0 has no tuples to move
abbrev pub protect_for : PiType → (prchk : ℕ) → ℕ
protect_for ty prchk = if is_zero ty then 0 else (if eqb prchk 0 then 3 else (if eqb prchk 4 then 4 else 1))

abbrev pub way : NvmCommand → Dir2
way c = if is_write c then Out else In

-- with the initial reference tag, and for PRCHK 7 with application tag and mask
abbrev pub tagged : NvmCommand → Rw
tagged c = record {
  protect = protect_for Two c.prchk;
  lba = c.first;
  n = c.count;
  rtag = c.rtag;
  app = if eqb c.prchk 7 then c.app else 0;
  mask = if eqb c.prchk 7 then c.mask else 0;
}

-- on type 2 the form of 32 bytes, else that of 10 bytes where it does, or of 16
abbrev pub scsi_command : PiType → NvmCommand → Cdb
scsi_command ty c = if is_two ty then in_32 (way c) (tagged c) else chosen ty (way c) c.first c.count (protect_for ty c.prchk) 0 0
