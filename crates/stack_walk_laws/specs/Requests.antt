-- The requests that ops are, and where the tuples of the block layer lie.
use Rattle.std.specs.Prelude.{ℕ, ◌+◌, ◌-◌, ◌*◌, ◌/◌, min, Bool, true, false, List, [], ◌∷◌, map, Option, Some, None}
use Rattle.page_pool.specs.declared.segs.Seg.{Seg}
use Rattle.integrity_payload.specs.declared.payload.Owner.TheVariants.{Block, App}
use Rattle.integrity_payload.specs.declared.payload.Payload.{Payload}
use Rattle.bio_core.specs.declared.request.Dir.{Dir}
use Rattle.bio_core.specs.declared.request.Dir.TheVariants.{Read, Write as WriteDir}
use Rattle.bio_core.specs.declared.request.Io.{Io}
use Rattle.stack_laws.specs.Passed.{numbers}
use Rattle.run_laws.specs.Passed.{Op, Fill, Put, Show, Seal, Write, Fetch, WritePi, FetchPi, Overwrite, Wait}
use Rattle.stack_walk_laws.specs.Sheets.{no_io}
use Rattle.page_pool.specs.declared.TheConstants.{PAGE}
use Rattle.pi_tuple.specs.declared.TheConstants.{TUPLE}

-- how many pages hold the tuples of so many blocks
abbrev pub pages_for : ℕ → ℕ
pages_for count = (count + 511) / 512

-- the i-th page of the tuples of so many blocks, from a page on
abbrev pub tuple_page : (page count : ℕ) → ℕ → Seg
tuple_page page count i = record { page = page + i; off = 0; len = min (TUPLE * (count - 512 * i)) PAGE }

abbrev pub private_tuples : (page count : ℕ) → List Seg
private_tuples page count = map (tuple_page page count) (numbers 0 (pages_for count))

-- the blocks of an op whose tuples the block layer makes
abbrev pub own_blocks : Op → ℕ
own_blocks (Fill seg byte) = 0
own_blocks (Put page off bytes) = 0
own_blocks (Show seg) = 0
own_blocks (Seal n body tuples app rtag) = 0
own_blocks (Write v n body app) = n
own_blocks (Fetch v n body) = n
own_blocks (WritePi v n body tuples) = 0
own_blocks (FetchPi v n body tuples) = 0
own_blocks (Overwrite dev lba change) = 0
own_blocks Wait = 0

-- the tuples that the block layer makes, where the host has tuples: from this page on
abbrev pub own_tuples : (v n app : ℕ) → Option ℕ → Option Payload
own_tuples v n app None = None
own_tuples v n app (Some page) = Some (record { seed = v; count = n; tuples = private_tuples page n; owner = Block; app = app })

abbrev pub of_block : Dir → (v n : ℕ) → List Seg → ℕ → Option ℕ → Io
of_block dir v n body app page = record { dir = dir; first = v; count = n; body = body; pi = own_tuples v n app page }

abbrev pub of_app : Dir → (v n : ℕ) → List Seg → List Seg → Io
of_app dir v n body tuples = record { dir = dir; first = v; count = n; body = body; pi = Some (record { seed = v; count = n; tuples = tuples; owner = App; app = 0 }) }

-- the request that an op is
abbrev pub request_of : Op → Option ℕ → Io
request_of (Fill seg byte) page = no_io
request_of (Put p off bytes) page = no_io
request_of (Show seg) page = no_io
request_of (Seal n body tuples app rtag) page = no_io
request_of (Write v n body app) page = of_block WriteDir v n body app page
request_of (Fetch v n body) page = of_block Read v n body 0 page
request_of (WritePi v n body tuples) page = of_app WriteDir v n body tuples
request_of (FetchPi v n body tuples) page = of_app Read v n body tuples
request_of (Overwrite dev lba change) page = no_io
request_of Wait page = no_io

-- the tuples that a `seal` makes
abbrev pub sealed : (n : ℕ) → List Seg → (app rtag : ℕ) → Payload
sealed n tuples app rtag = record { seed = rtag; count = n; tuples = tuples; owner = App; app = app }

abbrev pub first_page : Bool → ℕ → Option ℕ
first_page true page = Some page
first_page false page = None

-- the page behind those of an op's tuples
abbrev pub page_after : Bool → ℕ → Op → ℕ
page_after true page op = page + pages_for (own_blocks op)
page_after false page op = page

-- the requests of the ops, their tuples from this page on, and the page behind them all
abbrev pub requests_from : Bool → ℕ → List Op → List Io
requests_from dix page [] = []
requests_from dix page (op ∷ ops) = request_of op (first_page dix page) ∷ requests_from dix (page_after dix page op) ops

abbrev pub pages_from : Bool → ℕ → List Op → ℕ
pages_from dix page [] = page
pages_from dix page (op ∷ ops) = pages_from dix (page_after dix page op) ops
