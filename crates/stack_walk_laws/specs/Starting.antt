-- What a stack can be made for.
use Rattle.std.specs.Prelude.{◌≡◌, ℕ, ◌+◌, ◌*◌, ◌<◌, ◌≤◌, ◌^◌, Bool, true, List, length, map}
use Rattle.page_pool.specs.Pages.{AllLieIn, LiesIn}
use Rattle.page_pool.specs.Places.{Apart, NoneTwice, places_in, total}
use Rattle.page_pool.specs.declared.segs.Seg.{Seg}
use Rattle.integrity_payload.specs.Payloads.{AreWholeTuples}
use Rattle.dix_adapter.specs.Groups.{IsProtect}
use Rattle.stack_laws.specs.Passed.{Limits}
use Rattle.volume_table.specs.declared.device.DeviceInfo.{DeviceInfo}
use Rattle.volume_table.specs.Tables.{MadeFor, Table}
use Rattle.volume_table.specs.Places.{volume_len}
use Rattle.run_laws.specs.Passed.{Op, Fill, Put, Show, Seal, Write, Fetch, WritePi, FetchPi, Overwrite, Wait, put_seg}
use Rattle.stack_laws.specs.Runs.{blocks_of_requests}
use Rattle.stack_walk_laws.specs.Sheets.{op_in, request_in}
use Rattle.stack_walk_laws.specs.Requests.{requests_from}
use Rattle.pi_tuple.specs.declared.TheConstants.{TUPLE, LARGEST_BLOCK}
use Rattle.bio_core.specs.declared.TheConstants.{MOST_BLOCKS}
use Rattle.dix_adapter.specs.declared.TheConstants.{MOST_OF_COMMAND}
use Rattle.stack_steps.specs.declared.TheConstants.{MOST_OPS, MOST_PAGES}

-- data of n blocks of this size, whose blocks are the volume's
pub record IsData (pool : List (List ℕ)) (bytes len v n : ℕ) (body : List Seg) : Type 0 where
  pub some : 1 ≤ n
  pub size : total body ≡ n * bytes
  pub lies : AllLieIn pool body
  pub inside : v + n ≤ len

-- tuples of n blocks
pub record AreTuples (pool : List (List ℕ)) (n : ℕ) (tuples : List Seg) : Type 0 where
  pub whole : AreWholeTuples tuples
  pub long : total tuples ≡ TUPLE * n
  pub lies : AllLieIn pool tuples
  pub once : NoneTwice (places_in tuples)

-- Tuples that the application has travel from the host.
abbrev pub Travels : Bool → Type 0
Travels dix = dix ≡ true

-- an op of a script over so many pages, with blocks of this size of a volume of this length
abbrev pub IsOp : (dix : Bool) → List (List ℕ) → (bytes len : ℕ) → Op → Type 0
IsOp dix pool bytes len (Fill seg byte) = LiesIn pool seg
IsOp dix pool bytes len (Put page off bs) = LiesIn pool (put_seg page off bs) × (length bs < 2 ^ 32)
IsOp dix pool bytes len (Show seg) = LiesIn pool seg
IsOp dix pool bytes len (Seal n body tuples app rtag) = (1 ≤ n) × (AllLieIn pool body × (AreTuples pool n tuples × (Apart (places_in body) (places_in tuples) × (rtag + n ≤ 2 ^ 64))))
IsOp dix pool bytes len (Write v n body app) = IsData pool bytes len v n body
IsOp dix pool bytes len (Fetch v n body) = IsData pool bytes len v n body × NoneTwice (places_in body)
IsOp dix pool bytes len (WritePi v n body tuples) = Travels dix × (IsData pool bytes len v n body × (AreTuples pool n tuples × Apart (places_in body) (places_in tuples)))
IsOp dix pool bytes len (FetchPi v n body tuples) = Travels dix × (IsData pool bytes len v n body × (NoneTwice (places_in body) × (AreTuples pool n tuples × Apart (places_in body) (places_in tuples))))
IsOp dix pool bytes len (Overwrite dev lba change) = Unit {0}
IsOp dix pool bytes len Wait = Unit {0}

-- Few ops of few blocks, each within the pages and the volume, whose table was made for at most eight devices with blocks of this size.
pub record CanStart (table : Table) (dix : Bool) (protect : ℕ) (limits : Limits) (pages : ℕ) (pool : List (List ℕ)) (ops : List Op) : Type 0 where
  pub pool_is : length pool ≡ pages
  pub few_pages : pages ≤ MOST_PAGES
  pub few_ops : length ops ≤ MOST_OPS
  pub few_blocks : blocks_of_requests (map request_in (requests_from dix pages ops)) ≤ MOST_BLOCKS
  pub protect_is : IsProtect protect
  pub some_blocks : 1 ≤ limits.max_blocks
  pub most_blocks : limits.max_blocks ≤ MOST_OF_COMMAND
  pub bytes : ℕ
  pub some_bytes : 1 ≤ bytes
  pub few_bytes : bytes ≤ LARGEST_BLOCK
  pub devices : List DeviceInfo
  pub few_devices : length devices ≤ 8
  pub made : MadeFor table devices bytes
  pub each : (i : ℕ) → i < length ops → IsOp dix pool bytes (volume_len table.entries) (op_in ops i)
