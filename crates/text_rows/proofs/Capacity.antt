-- READ CAPACITY moves nothing where there is no room.
use Rattle.std.proofs.Common.{◌≡◌, ℕ, ◌≤◌, refl, arith}
use Rattle.std.specs.Prelude.{Result, Ok, Err}
use Rattle.cdb_codec.specs.Decoded.{decoded}
use Rattle.cdb_codec.specs.declared.command.Cdb.{Cdb}
use Rattle.cdb_codec.specs.declared.command.CdbFault.{CdbFault}
use Rattle.rig_api.specs.Requests.{request_of}
use Rattle.rig_api.specs.declared.request.Request.{Request}
use Rattle.rig_api.specs.declared.request.Request.TheVariants.{Read, Write, Verify, ReadCapacity}
use Rattle.rig_api.specs.Log.{capacity_by, capacity_len, capacity_under}

of-request : (r : Request) → capacity_by r 0 ≡ 0
of-request (Read c) = refl
of-request (Write c) = refl
of-request (Verify c) = refl
of-request (ReadCapacity n) = refl

of-result : (r : Result Cdb CdbFault) → capacity_under r 0 ≡ 0
of-result (Ok c) = of-request (request_of c)
of-result (Err f) = refl

pub nothing-moved : (cdb : _) (most : ℕ) → capacity_len cdb 0 ≤ most
nothing-moved cdb most = let z : capacity_len cdb 0 ≡ 0 = of-result (decoded cdb) in omega (arith, z)
