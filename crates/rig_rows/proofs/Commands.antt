-- A command that transfers a block moves no capacity.
use Rattle.std.proofs.Common.{◌≡◌, ℕ, List, refl, arith}
use Rattle.std.specs.Prelude.{Result, Ok, Err}
use Rattle.cdb_codec.specs.Decoded.{decoded}
use Rattle.cdb_codec.specs.declared.command.Cdb.{Cdb}
use Rattle.cdb_codec.specs.declared.command.CdbFault.{CdbFault}
use Rattle.rig_api.specs.Log.{capacity_by, capacity_len, capacity_under}
use Rattle.rig_api.specs.Requests.{blocks_in, blocks_of, request_of, transferred}
use Rattle.rig_api.specs.declared.request.Request.{Request}
use Rattle.rig_api.specs.declared.request.Request.TheVariants.{Read, Write, Verify, ReadCapacity}

by-request : (r : Request) (room : ℕ) → transferred r ≡ 1 → capacity_by r room ≡ 0
by-request (Read c) room h = refl
by-request (Write c) room h = refl
by-request (Verify c) room h = refl
by-request (ReadCapacity len) room h = absurd (omega (arith, h))

by-command : (d : Result Cdb CdbFault) (room : ℕ) → blocks_in d ≡ 1 → capacity_under d room ≡ 0
by-command (Ok cdb) room h = by-request (request_of cdb) room h
by-command (Err fault) room h = refl

pub no_capacity : (cdb : List ℕ) (room : ℕ) → blocks_of cdb ≡ 1 → capacity_len cdb room ≡ 0
no_capacity cdb room h = by-command (decoded cdb) room h
