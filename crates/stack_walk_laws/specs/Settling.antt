-- What became of the blocks of requests, and the requests whose blocks can be settled.
use Rattle.std.specs.Prelude.{◌≡◌, ℕ, ◌+◌, ◌-◌, ◌<◌, ◌≤◌, ◌^◌, List, length, map, take, get_or, Option, Some, None}
use Rattle.page_pool.specs.Pages.{AllLieIn}
use Rattle.page_pool.specs.Places.{Apart, NoneTwice, places_in}
use Rattle.pi_tuple.specs.declared.checks.Check.{Check}
use Rattle.integrity_payload.specs.declared.payload.Owner.{Owner}
use Rattle.integrity_payload.specs.declared.payload.Payload.{Payload}
use Rattle.integrity_payload.specs.Payloads.{IsPayload}
use Rattle.bio_core.specs.declared.bio.Bio.{Bio}
use Rattle.bio_core.specs.declared.fate.Fate.{Fate}
use Rattle.bio_core.specs.declared.fate.Fate.TheVariants.{Good, Bad}
use Rattle.bio_core.specs.declared.request.Dir.TheVariants.{Read}
use Rattle.bio_core.specs.declared.request.Io.{Io}
use Rattle.block_path.specs.WayIn.{owner_says}
use Rattle.stack_laws.specs.Runs.{blocks_of_requests}
use Rattle.stack_walk_laws.specs.Sheets.{io_at, request_in}
use Rattle.bio_core.specs.declared.TheConstants.{MOST_BLOCKS}

-- what becomes of a block by what the owner of its tuple finds
abbrev pub fate_by : Owner → Option Check → Fate
fate_by owner None = Good
fate_by owner (Some check) = Bad (owner_says owner check)

-- a request's tuples: they lie in the pool, apart from the data, and no byte of them is there twice
pub record HasTuples (pool : List (List ℕ)) (io : Io) (pi : Payload) : Type 0 where
  pub payload : IsPayload pi
  pub count : pi.count ≡ io.count
  pub lie : AllLieIn pool pi.tuples
  pub once : NoneTwice (places_in pi.tuples)
  pub numbers : pi.seed + pi.count < 2 ^ 64
  pub apart : Apart (places_in io.body) (places_in pi.tuples)
  pub seed : pi.seed ≡ io.first

-- a request whose data and tuples lie in the pool
pub record IsWhole (pool : List (List ℕ)) (io : Io) : Type 0 where
  pub lies : AllLieIn pool io.body
  pub once : io.dir ≡ Read → NoneTwice (places_in io.body)
  pub tuples : (pi : Payload) → io.pi ≡ Some pi → HasTuples pool io pi

abbrev pub AreAllWhole : List (List ℕ) → List Io → Type 0
AreAllWhole pool ios = (i : ℕ) → i < length ios → IsWhole pool (io_at ios i)

-- a bio of one of these requests
pub record IsOf (ios : List Io) (b : Bio) : Type 0 where
  pub numbered : 1 ≤ b.op
  pub there : b.op ≤ length ios
  pub within : b.k + b.count ≤ (io_at ios (b.op - 1)).count
  pub ends : b.lba + b.count < 2 ^ 64

-- the blocks of the requests before this one
abbrev pub blocks_before : List Io → ℕ → ℕ
blocks_before ios i = blocks_of_requests (map request_in (take i ios))

-- where the blocks of each request begin, and what became of each block
pub record AreFates (ios : List Io) (starts : List ℕ) (held : List Fate) : Type 0 where
  pub count : length starts ≡ length ios
  pub all : length held ≡ blocks_of_requests (map request_in ios)
  pub begin : (i : ℕ) → i < length ios → get_or starts i 0 ≡ blocks_before ios i
  pub within : (i : ℕ) → i < length ios → get_or starts i 0 + (io_at ios i).count ≤ length held
  pub few : length held ≤ MOST_BLOCKS
