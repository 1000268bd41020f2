-- Room for the one record.
use Rattle.std.proofs.Common.{◌≡◌, ◌<◌, ◌≤◌, ℕ, ◌+◌, ◌*◌, true, refl, ap, arith, false, Option, Some, None}
use Rattle.std.specs.Prelude.{is_some, Result, Ok, Err}
use Rattle.std.specs.Global.{Vec}
use Rattle.std.proofs.Math.Nat.{mul-le-mul_right}
use Rattle.cdb_codec.specs.Decoded.{decoded}
use Rattle.cdb_codec.specs.declared.command.Cdb.{Cdb}
use Rattle.cdb_codec.specs.declared.command.CdbFault.{CdbFault}
use Rattle.fault_schedule.specs.declared.Label.{Label}
use Rattle.rig_api.specs.Requests.{blocks_in, blocks_of, request_of, transferred}
use Rattle.rig_api.specs.declared.request.Request.{Request}
use Rattle.rig_api.specs.declared.request.Request.TheVariants.{Read, Write, Verify, ReadCapacity}
use Rattle.rig_api.specs.Log.{HasRoom, capacity_by, capacity_len, capacity_under}
use Rattle.rig_api.specs.Telling.{greatest_size}
use Rattle.rig_api.specs.declared.rig.Record.{Record}
use Rattle.test_rig.specs.Answering.{device_count, greatest_is, greatest_most, is_count, records_left, room_of, spare, standing_of}

-- A command transfers blocks, or the data of READ CAPACITY.
of-request : (r : Request) (w room most : ℕ) → w * transferred r ≤ most → capacity_by r room ≤ most → w * transferred r + capacity_by r room ≤ most
of-request (Read c) w room most b l = omega (arith, b)
of-request (Write c) w room most b l = omega (arith, b)
of-request (Verify c) w room most b l = omega (arith, b)
of-request (ReadCapacity n) w room most b l = let z : w * 0 ≡ 0 = omega arith in omega (arith, z, l)

of-result : (r : Result Cdb CdbFault) (w room most : ℕ) → w * blocks_in r ≤ most → capacity_under r room ≤ most → w * blocks_in r + capacity_under r room ≤ most
of-result (Ok c) w room most b l = of-request (request_of c) w room most b l
of-result (Err f) w room most b l = omega (arith, b)

pub one-or-other : (cdb : _) (size most room : ℕ) → size ≤ 4096 → 4104 * blocks_of cdb + 32 ≤ most → capacity_len cdb room ≤ most → (size + 8) * blocks_of cdb + capacity_len cdb room ≤ most
one-or-other cdb size most room s b l =
    let w : (size + 8) * blocks_of cdb ≤ 4104 * blocks_of cdb = mul-le-mul_right (blocks_of cdb) (omega arith) in
    of-result (decoded cdb) (size + 8) room most (omega arith) l

record-left : (what : Option Record) → is_some what ≡ false → records_left what ≡ 1
record-left None h = refl
record-left (Some r) h = absurd (let x : true ≡ false = h in cc)

pub has-room : (devices exchanges blocks : ℕ) (what : Option Record) (labels : Vec Label) (moved : Vec ℕ) → is_count devices ≡ true → is_some what ≡ false → exchanges ≤ 1 → blocks ≤ 1024 → 1025 ≤ spare labels → 4202528 ≤ spare moved →
    HasRoom (greatest_size (standing_of devices)) exchanges blocks (room_of what labels moved)
has-room devices exchanges blocks what labels moved o n e b l m =
    let g = greatest_most devices o in
    let x : (greatest_size (standing_of devices) + 8) * blocks ≤ 4104 * blocks = mul-le-mul_right blocks (omega arith) in
    let r = record-left what n in
    record { records = omega (arith, r, e); labels = omega (arith, l, e, b); moved = omega (arith, x, b, e, m) }

-- what the room of a command says
pub record Rooms (blocks : ℕ) (what : Option Record) (labels : Vec Label) (moved : Vec ℕ) : Type 0 where
  pub none : what ≡ None
  pub some : blocks + 1 ≤ spare labels
  pub most : 4104 * blocks + 32 ≤ spare moved

no-record : (what : Option Record) → 1 ≤ records_left what → what ≡ None
no-record None h = refl
no-record (Some r) h = absurd (omega arith)

pub rooms : (devices dev blocks : ℕ) (what : Option Record) (labels : Vec Label) (moved : Vec ℕ) → is_count devices ≡ true → dev < devices → HasRoom (greatest_size (standing_of devices)) 1 blocks (room_of what labels moved) → Rooms blocks what labels moved
rooms devices dev blocks what labels moved o d h =
    let g = greatest_is devices (device_count devices dev o d) in
    let z : (greatest_size (standing_of devices) + 8) * blocks ≡ 4104 * blocks = ap (λ n. (n + 8) * blocks) g in
    record { none = no-record what h.records; some = (let x = h.labels in omega arith); most = (let x = h.moved in omega (arith, z)) }
