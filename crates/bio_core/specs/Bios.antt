use Rattle.std.specs.Prelude.{◌≡◌, ◌≤◌, ℕ, zero, suc, ◌+◌, ◌*◌, ◌/◌, List, [], ◌∷◌, length, Option, Some, None}
use Rattle.page_pool.specs.Places.{total}
use Rattle.page_pool.specs.Cuts.{cut}
use Rattle.integrity_payload.specs.declared.payload.Payload.{Payload}
use Rattle.bio_core.specs.declared.request.Dir.{Dir}
use Rattle.bio_core.specs.declared.request.Io.{Io}
use Rattle.bio_core.specs.declared.bio.Bio.{Bio}
use Rattle.pi_tuple.specs.declared.TheConstants.{TUPLE}

-- the bytes of data of each of a request's blocks
abbrev pub block_size : Io → ℕ
block_size io = total io.body / io.count

-- a payload of the request, where there is one, has bytes for as many tuples as the request has blocks
abbrev pub HasTuplesFor : Option Payload → ℕ → Type 0
HasTuplesFor pi count = (payload : Payload) → pi ≡ Some payload → TUPLE * count ≤ total payload.tuples

-- the segments that hold a byte of the data of n blocks, from block k on
abbrev pub data_segs : Io → ℕ → ℕ → ℕ
data_segs io k n = length (cut io.body (k * block_size io) (n * block_size io))

-- the segments that hold a byte of the tuples of n blocks, from block k on
abbrev pub tuple_segs : Option Payload → ℕ → ℕ → ℕ
tuple_segs None k n = 0
tuple_segs (Some pi) k n = length (cut pi.tuples (TUPLE * k) (TUPLE * n))

-- n blocks from block k on, at this address and the next ones, with so many segments of data and of tuples
abbrev pub bio_with : (segs pi_segs : ℕ → ℕ → ℕ) → Dir → (op k n dev lba : ℕ) → Bio
bio_with segs pi_segs dir op k n dev lba = record {
  op = op;
  k = k;
  count = n;
  dev = dev;
  lba = lba;
  dir = dir;
  segs = segs k n;
  pi_segs = pi_segs k n;
}

-- n blocks of a bio, from its block `at` on, with so many segments
abbrev pub part_with : (segs pi_segs : ℕ → ℕ → ℕ) → Bio → ℕ → ℕ → Bio
part_with segs pi_segs b at n = record b {
  k = b.k + at;
  count = n;
  lba = b.lba + at;
  segs = segs (b.k + at) n;
  pi_segs = pi_segs (b.k + at) n;
}

-- n blocks of a request, from block k on, at this address and the next ones
abbrev pub bio_of : Io → (op k n dev lba : ℕ) → Bio
bio_of io op k n dev lba = bio_with (data_segs io) (tuple_segs io.pi) io.dir op k n dev lba

-- n blocks of a bio of the request, from its block `at` on
abbrev pub part_of : Io → Bio → ℕ → ℕ → Bio
part_of io b at n = part_with (data_segs io) (tuple_segs io.pi) b at n

-- block k of an op, and where it goes to or comes from
pub record Block : Type 0 where
  pub op : ℕ
  pub k : ℕ
  pub dev : ℕ
  pub lba : ℕ
  pub dir : Dir

-- n blocks one after another, the first of them block k at this address
abbrev pub blocks_from : (op k dev lba : ℕ) → Dir → ℕ → List Block
blocks_from op k dev lba dir zero = []
blocks_from op k dev lba dir (suc n) = record { op = op; k = k; dev = dev; lba = lba; dir = dir } ∷ blocks_from op (suc k) dev (suc lba) dir n

-- the blocks that a bio names
abbrev pub blocks_of : Bio → List Block
blocks_of b = blocks_from b.op b.k b.dev b.lba b.dir b.count
