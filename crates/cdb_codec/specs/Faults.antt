use Rattle.std.specs.Prelude.{ℕ, List, codes}
use Rattle.cdb_codec.specs.declared.command.CdbFault.{CdbFault}
use Rattle.cdb_codec.specs.declared.command.CdbFault.TheVariants.{Opcode, Field, Length}

abbrev pub fault_number : CdbFault → ℕ
fault_number Opcode = 1
fault_number Field = 2
fault_number Length = 3

abbrev pub fault_name : CdbFault → List ℕ
fault_name Opcode = codes "Opcode"
fault_name Field = codes "Field"
fault_name Length = codes "Length"
