use Rattle.std.specs.Prelude.{ℕ, ◌≡◌, Option, None, Some, Result, Ok, Err}
use Rattle.cdb_codec.specs.declared.command.CdbFault.{CdbFault}
use Rattle.cdb_codec.specs.declared.command.CdbFault.TheVariants.{Opcode, Field, Length}
use Rattle.pi_blocks.specs.declared.block.Found.{Found}
use Rattle.pi_blocks.specs.declared.layout.Refusal.{Refusal}
use Rattle.pi_blocks.specs.declared.layout.Refusal.TheVariants.{BadLayout, BadLength}
use Rattle.pi_blocks.specs.declared.layout.Unchecked.{Unchecked}
use Rattle.pi_blocks.specs.declared.layout.Unchecked.TheVariants.{Blocks, Flags}

-- the status of blocks that are none
abbrev pub none_status : Refusal → ℕ
none_status BadLayout = 2
none_status BadLength = 3

-- The status of a check: what was found is told where a block differs, and else what was told before stays.
abbrev pub Told : Result (Option Found) Unchecked → (status : ℕ) → (old new : Found) → Type 0
Told (Ok None) status old new = (status ≡ 0) × (new ≡ old)
Told (Ok (Some first)) status old new = (status ≡ 1) × (new ≡ first)
Told (Err (Blocks why)) status old new = (status ≡ none_status why) × (new ≡ old)
Told (Err Flags) status old new = (status ≡ 5) × (new ≡ old)

-- the status of a fault
abbrev pub status_of : CdbFault → ℕ
status_of Opcode = 4
status_of Field = 5
status_of Length = 3
