-- The blocks of a group, and where each lies: in the pages, as cells, and on its device.
use Rattle.std.specs.Prelude.{◌≡◌, ◌⊎◌, ℕ, ◌+◌, ◌-◌, ◌*◌, ◌<◌, ◌≤◌, ◌^◌, List, [], ◌∷◌, ◌++◌, get_or, length, map, Option, Some, None}
use Rattle.std.specs.List.{All}
use Rattle.page_pool.specs.Cells.{cell, gather}
use Rattle.page_pool.specs.Places.{range_of}
use Rattle.integrity_payload.specs.declared.payload.Payload.{Payload}
use Rattle.bio_core.specs.declared.bio.Bio.{Bio}
use Rattle.bio_core.specs.declared.request.Dir.{Dir}
use Rattle.bio_core.specs.declared.request.Dir.TheVariants.{Read}
use Rattle.bio_core.specs.declared.request.Io.{Io}
use Rattle.bio_core.specs.Bios.{Block, block_size, blocks_of}
use Rattle.fault_schedule.specs.declared.Label.{Label}
use Rattle.block_path.specs.declared.mode.Mode.{Mode}
use Rattle.block_path.specs.declared.route.Route.{Route}
use Rattle.dix_adapter.specs.declared.adapter.Adapter.{Adapter}
use Rattle.dix_adapter.specs.Walking.{HasHost, IsOnce, Walkable}
use Rattle.pi_tuple.specs.declared.TheConstants.{TUPLE, LARGEST_BLOCK}

-- the blocks of a group, bio after bio
abbrev pub blocks_in : List Bio → List Block
blocks_in [] = []
blocks_in (b ∷ bs) = blocks_of b ++ blocks_in bs

-- how many they are
abbrev pub size : List Bio → ℕ
size [] = 0
size (b ∷ bs) = b.count + size bs

abbrev pub no_bio : Bio
no_bio = record { op = 0; k = 0; count = 0; dev = 0; lba = 0; dir = Read; segs = 0; pi_segs = 0 }

-- the first bio of a group, whose device, direction and address are the group's
abbrev pub first_of : List Bio → Bio
first_of req = get_or req 0 no_bio

abbrev pub no_request : Io
no_request = record { dir = Read; first = 0; count = 0; body = []; pi = None }

-- the request of the op of this number
abbrev pub request_of : List Io → ℕ → Io
request_of ios op = get_or ios (op - 1) no_request

-- the bytes of data in each block of a group: those of its first request's blocks
abbrev pub block_len : List Io → List Bio → ℕ
block_len ios req = block_size (request_of ios (first_of req).op)

abbrev pub mode_of : Adapter → Mode
mode_of a = record { kind = a.kind; dix = a.dix; dif = a.dif; protect = a.protect; app = a.app; mask = a.mask }

abbrev pub label_of : Block → Label
label_of b = record { op = b.op; k = b.k }

-- a block on its way
abbrev pub route_of : Adapter → List Io → Block → Route
route_of a ios b = record {
  label = label_of b;
  virt = (request_of ios b.op).first + b.k;
  dev = b.dev;
  lba = b.lba;
  ty = a.ty;
  size = block_size (request_of ios b.op);
  mode = mode_of a;
}

-- block i of a bio of this request
abbrev pub route_by : Adapter → Io → Bio → ℕ → Route
route_by a io b i = record {
  label = record { op = b.op; k = b.k + i };
  virt = io.first + (b.k + i);
  dev = b.dev;
  lba = b.lba + i;
  ty = a.ty;
  size = block_size io;
  mode = mode_of a;
}

-- the cells of the data of block k, and of its tuple, where the request has tuples
abbrev pub data_cells : Io → ℕ → List ℕ
data_cells io k = map cell (range_of io.body (k * block_size io) (block_size io))

abbrev pub tuple_cells : Option Payload → ℕ → List ℕ
tuple_cells None k = []
tuple_cells (Some pi) k = map cell (range_of pi.tuples (TUPLE * k) TUPLE)

-- the cells of a block's frame
abbrev pub frame_cells : List Io → Block → List ℕ
frame_cells ios b = data_cells (request_of ios b.op) b.k ++ tuple_cells (request_of ios b.op).pi b.k

-- the frame that stands there
abbrev pub frame_in : List Io → (cells : List ℕ) → Block → List ℕ
frame_in ios cells b = gather 0 (frame_cells ios b) cells

-- ---- what a group is

-- a protect field of commands that transfer tuples
abbrev pub IsProtect : ℕ → Type 0
IsProtect p = (p ≡ 1) ⊎ ((p ≡ 3) ⊎ (p ≡ 4))

-- A request whose blocks have this size, and lie in the pool; data that are read have no byte twice.
pub record IsCarriedRequest (a : Adapter) (pool : List (List ℕ)) (bytes : ℕ) (io : Io) : Type 0 where
  pub size : block_size io ≡ bytes
  pub walks : Walkable pool io
  pub once : io.dir ≡ Read → IsOnce io
  pub host : HasHost a.dix io.pi
  pub fits : io.first + io.count < 2 ^ 64

-- its last block has a number and an address
pub record EndsInTime (b : Bio) : Type 0 where
  pub k : b.k + b.count < 2 ^ 32
  pub lba : b.lba + b.count < 2 ^ 64

-- a bio of the group names blocks of its request
pub record IsBio (a : Adapter) (pool : List (List ℕ)) (bytes : ℕ) (ios : List Io) (dev : ℕ) (dir : Dir) (b : Bio) : Type 0 where
  pub op : 1 ≤ b.op
  pub there : b.op ≤ length ios
  pub some : 1 ≤ b.count
  pub within : b.k + b.count ≤ (request_of ios b.op).count
  pub on : b.dev ≡ dev
  pub way : b.dir ≡ dir
  pub of : (request_of ios b.op).dir ≡ dir
  pub ends : EndsInTime b
  pub request : IsCarriedRequest a pool bytes (request_of ios b.op)

-- each begins where the one before ends
abbrev pub Chain : ℕ → List Bio → Type 0
Chain at [] = Unit {0}
Chain at (b ∷ bs) = (b.lba ≡ at) × Chain (at + b.count) bs

-- A group: blocks of one direction and one size, at consecutive addresses of one device.
pub record IsCarriedGroup (a : Adapter) (pool : List (List ℕ)) (bytes : ℕ) (ios : List Io) (req : List Bio) : Type 0 where
  pub some : 1 ≤ length req
  pub bios : All (IsBio a pool bytes ios (first_of req).dev (first_of req).dir) req
  pub chain : Chain (first_of req).lba req
  pub ends : (first_of req).lba + size req < 2 ^ 64
  pub small : (1 ≤ bytes) × (bytes ≤ LARGEST_BLOCK)
