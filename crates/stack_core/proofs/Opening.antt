-- What `new` is asked for gives a sheet and whole requests.
use Rattle.std.proofs.Common.{◌≡◌, ◌<◌, ◌≤◌, ℕ, ◌+◌, ◌*◌, Bool, List, [], length, map, replicate, Option, Some, sym, ap, ◌∙◌, ⊎_elim, arith}
use Rattle.std.specs.Prelude.{◌^◌}
use Rattle.std.proofs.lemmas.Bool.{cases_lt}
use Rattle.std.proofs.lemmas.List.{get_or_past, length-replicate}
use Rattle.std.proofs.lemmas.Option.{none-some}
use Rattle.bio_core.specs.declared.request.Io.{Io}
use Rattle.page_pool.specs.Places.{total}
use Rattle.integrity_payload.specs.declared.payload.Payload.{Payload}
use Rattle.merge_queue.specs.declared.limits.Limits.{Limits}
use Rattle.volume_table.specs.Tables.{MadeFor, Table}
use Rattle.volume_table.specs.declared.device.DeviceInfo.{DeviceInfo}
use Rattle.volume_table.specs.Places.{place_in, volume_len}
use Rattle.volume_table.proofs.Sums.{few}
use Rattle.stack_ops.specs.declared.op.Op.{Op}
use Rattle.stack_ops.specs.declared.op.Op.TheVariants.{Fill, Put, Show, Seal, Write, Fetch, WritePi, FetchPi, Overwrite, Wait}
use Rattle.stack_steps.proofs.Keep.{count-few}
use Rattle.bio_core.specs.Bios.{block_size}
use Rattle.stack_walk_laws.specs.Sheets.{AreInside, HaveNumbers, HaveTuples, IsSheet, io_at, no_io, op_in, request_in}
use Rattle.stack_walk_laws.specs.Settling.{AreAllWhole}
use Rattle.stack_walk_laws.specs.Requests.{first_page, own_blocks, pages_from, request_of, requests_from}
use Rattle.stack_core.specs.Stacks.{AreUniform}
use Rattle.stack_walk_laws.specs.Starting.{CanStart}
use Rattle.stack_walk_laws.proofs.WalksBegin.{IsFit, fit-request, length-requests, pages-grow, placed, whole-request}
use Rattle.stack_walk_laws.proofs.Facts.{request-at, there}
use Rattle.stack_walk_laws.proofs.Planned.{fine-of}

short : (table : Table) (devices : List DeviceInfo) (bytes : ℕ) → MadeFor table devices bytes → volume_len table.entries < 2 ^ 63
short table devices bytes m = let e = few table.entries m.ranges in let c = m.count in omega arith

-- each request fits
pub fits : (table : Table) (dix : Bool) (protect : ℕ) (limits : Limits) (pages : ℕ) (pool : List (List ℕ)) (ops : List Op) (i : ℕ) (c : CanStart table dix protect limits pages pool ops) → i < length ops →
    IsFit dix c.bytes (volume_len table.entries) (io_at (requests_from dix pages ops) i)
fits table dix protect limits pages pool ops i c h =
    let p = placed dix pages ops i h in
    rw p.is (fit-request dix pool c.bytes (volume_len table.entries) p.at _ (c.each i h) (short table c.devices c.bytes c.made))

-- and is whole, in a pool with the pages of all
pub wholes : (table : Table) (dix : Bool) (protect : ℕ) (limits : Limits) (pages : ℕ) (pool now : List (List ℕ)) (ops : List Op) → CanStart table dix protect limits pages pool ops → length now ≡ pages_from dix pages ops → AreAllWhole now (requests_from dix pages ops)
wholes table dix protect limits pages pool now ops c n = λ i l.
    (let e = length-requests dix pages ops in
    let h : i < length ops = omega arith in
    let p = placed dix pages ops i h in
    let g = pages-grow dix pages ops in
    let k = c.pool_is in
    let f = p.from in
    rw p.is (whole-request dix pool now c.bytes (volume_len table.entries) p.at _ (c.each i h) (omega arith) (omega arith) (λ d. (let t = p.to d in omega arith)) (short table c.devices c.bytes c.made)))

pub uniform : (table : Table) (dix : Bool) (protect : ℕ) (limits : Limits) (pages : ℕ) (pool : List (List ℕ)) (ops : List Op) (c : CanStart table dix protect limits pages pool ops) → AreUniform dix c.bytes (requests_from dix pages ops)
uniform table dix protect limits pages pool ops c =
    let ios = requests_from dix pages ops in
    let n = length-requests dix pages ops in
    record {
      some = c.some_bytes;
      few = c.few_bytes;
      size = λ i h. (let l = there ios i h in (fits table dix protect limits pages pool ops i c (omega arith)).size h);
      host = λ i h. (let l = there ios i h in (fits table dix protect limits pages pool ops i c (omega arith)).host h);
    }

-- a block of each request has at most 4,096 bytes
pub small-blocks : (table : Table) (dix : Bool) (protect : ℕ) (limits : Limits) (pages : ℕ) (pool : List (List ℕ)) (ops : List Op) → CanStart table dix protect limits pages pool ops →
    (i : ℕ) → 0 < (io_at (requests_from dix pages ops) i).count → block_size (io_at (requests_from dix pages ops) i) ≤ 4096
small-blocks table dix protect limits pages pool ops c i z =
    let u = uniform table dix protect limits pages pool ops c in
    let a = u.size i z in
    let b = u.few in
    omega arith

inside : (table : Table) (dix : Bool) (protect : ℕ) (limits : Limits) (pages : ℕ) (pool : List (List ℕ)) (ops : List Op) → CanStart table dix protect limits pages pool ops → AreInside (requests_from dix pages ops) table
inside table dix protect limits pages pool ops c = λ i k h.
    (let l = there (requests_from dix pages ops) i (omega arith) in
    let n = length-requests dix pages ops in
    let f = (fits table dix protect limits pages pool ops i c (omega arith)).inside in
    omega arith)

tuples : (table : Table) (dix : Bool) (protect : ℕ) (limits : Limits) (pages : ℕ) (pool now : List (List ℕ)) (ops : List Op) → CanStart table dix protect limits pages pool ops → length now ≡ pages_from dix pages ops → (i : ℕ) (pi : Payload) → i < length (requests_from dix pages ops) →
    (io_at (requests_from dix pages ops) i).pi ≡ Some pi → 8 * (io_at (requests_from dix pages ops) i).count ≤ total pi.tuples
tuples table dix protect limits pages pool now ops c n i pi l e =
    let t = (wholes table dix protect limits pages pool now ops c n i l).tuples pi e in
    let a = t.count in
    let b = t.payload.long in
    omega arith

pub have-numbers : (table : Table) (dix : Bool) (protect : ℕ) (limits : Limits) (pages : ℕ) (pool : List (List ℕ)) (ops : List Op) → CanStart table dix protect limits pages pool ops → HaveNumbers (requests_from dix pages ops)
have-numbers table dix protect limits pages pool ops c = λ i.
    (let ios = requests_from dix pages ops in
    let n = length-requests dix pages ops in
    ⊎_elim
    (λ (l : i < length ios). (fits table dix protect limits pages pool ops i c (omega arith)).number)
    (λ (l : length ios ≤ i).
    let e = ap (λ (io : Io). io.first) (get_or_past ios i no_io l) in
    let f = ap (λ (io : Io). io.count) (get_or_past ios i no_io l) in
    omega arith)
    (cases_lt i (length ios)))

all-tuples : (table : Table) (dix : Bool) (protect : ℕ) (limits : Limits) (pages : ℕ) (pool : List (List ℕ)) (ops : List Op) → CanStart table dix protect limits pages pool ops → HaveTuples (requests_from dix pages ops)
all-tuples table dix protect limits pages pool ops c = λ i pi e.
    (let ios = requests_from dix pages ops in
    let now : List (List ℕ) = replicate (pages_from dix pages ops) [] in
    ⊎_elim
    (λ (l : i < length ios). tuples table dix protect limits pages pool now ops c (length-replicate {A = List ℕ} (pages_from dix pages ops) []) i pi l e)
    (λ (l : length ios ≤ i). let f = ap (λ (io : Io). io.pi) (get_or_past ios i no_io l) in absurd (none-some pi (sym f ∙ e)))
    (cases_lt i (length ios)))

-- the sheet of `new`
pub sheet-is : (table : Table) (dix : Bool) (protect : ℕ) (limits : Limits) (pages : ℕ) (pool : List (List ℕ)) (ops : List Op) (shifted : List Bool) (devices : ℕ) → CanStart table dix protect limits pages pool ops → devices ≤ 8 →
    ((i k : ℕ) → k < (io_at (requests_from dix pages ops) i).count → (place_in table.entries ((io_at (requests_from dix pages ops) i).first + k)).0 < devices) → IsSheet ops shifted (requests_from dix pages ops) table limits devices
sheet-is table dix protect limits pages pool ops shifted devices c eight on =
    let a = inside table dix protect limits pages pool ops c in
    let n = length-requests dix pages ops in
    let most = c.few_ops in
    record {
      fine = fine-of ops shifted (requests_from dix pages ops) table limits devices (record { devices = c.devices; size = c.bytes; made = c.made }) (record { inside = a; on = on }) (omega arith) c.few_blocks eight c.some_blocks;
      inside = a;
      numbers = have-numbers table dix protect limits pages pool ops c;
      tuples = all-tuples table dix protect limits pages pool ops c;
    }

-- ---- what the calls of `new` ask

own-some : (op : Op) (page : Option ℕ) → own_blocks op ≤ (request_of op page).count
own-some (Fill seg byte) page = omega arith
own-some (Put p off bytes) page = omega arith
own-some (Show seg) page = omega arith
own-some (Seal n body tuples app rtag) page = omega arith
own-some (Write v n body app) page = omega arith
own-some (Fetch v n body) page = omega arith
own-some (WritePi v n body tuples) page = omega arith
own-some (FetchPi v n body tuples) page = omega arith
own-some (Overwrite dev lba change) page = omega arith
own-some Wait page = omega arith

-- each op has few blocks
pub own-few : (table : Table) (dix : Bool) (protect : ℕ) (limits : Limits) (pages : ℕ) (pool : List (List ℕ)) (ops : List Op) → CanStart table dix protect limits pages pool ops → (i : ℕ) → i < length ops → own_blocks (op_in ops i) ≤ 16384
own-few table dix protect limits pages pool ops c = λ i h.
    (let ios = requests_from dix pages ops in
    let p = placed dix pages ops i h in
    let o = own-some (op_in ops i) (first_page dix p.at) in
    let e : (io_at ios i).count ≡ (request_of (op_in ops i) (first_page dix p.at)).count = ap (λ (io : Io). io.count) p.is in
    let r = ap (λ r. r.count) (request-at ios i) in
    let f = count-few (map request_in ios) i in
    let b = c.few_blocks in
    omega arith)

-- each request's blocks are the volume's
pub inside-each : (table : Table) (dix : Bool) (protect : ℕ) (limits : Limits) (pages : ℕ) (pool : List (List ℕ)) (ops : List Op) → CanStart table dix protect limits pages pool ops → (i : ℕ) → i < length (requests_from dix pages ops) →
    (io_at (requests_from dix pages ops) i).first + (io_at (requests_from dix pages ops) i).count ≤ volume_len table.entries
inside-each table dix protect limits pages pool ops c = λ i h. (let n = length-requests dix pages ops in (fits table dix protect limits pages pool ops i c (omega arith)).inside)
