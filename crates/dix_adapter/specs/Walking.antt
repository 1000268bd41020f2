-- Along the blocks of a request.
use Rattle.std.specs.Prelude.{◌≡◌, Bool, true, false, ℕ, ◌+◌, ◌*◌, ◌<◌, ◌≤◌, ◌^◌, List, [], ◌++◌, length, map, Option, Some, None}
use Rattle.page_pool.specs.declared.segs.Seg.{Seg}
use Rattle.page_pool.specs.Cells.{cell}
use Rattle.page_pool.specs.Cuts.{past}
use Rattle.page_pool.specs.Pages.{AllLieIn, AreWhole, bytes_in}
use Rattle.page_pool.specs.Places.{NoneTwice, places_in, range_of, total}
use Rattle.page_pool.specs.Walking.{AllStandIn}
use Rattle.integrity_payload.specs.Payloads.{IsPayload}
use Rattle.integrity_payload.specs.declared.payload.Payload.{Payload}
use Rattle.bio_core.specs.declared.request.Io.{Io}
use Rattle.bio_core.specs.Bios.{block_size}
use Rattle.block_path.specs.declared.route.Route.{Route}
use Rattle.dix_adapter.specs.declared.walks.Walks.{Walks}
use Rattle.pi_tuple.specs.declared.TheConstants.{TUPLE}

-- a request along whose blocks one can walk: its data and tuples lie in the pool
abbrev pub WalksTuples : (pool : List (List ℕ)) → ℕ → Option Payload → Type 0
WalksTuples pool count None = Unit {0}
WalksTuples pool count (Some pi) = IsPayload pi × ((pi.count ≡ count) × AllLieIn pool pi.tuples)

-- in some pool the tuples are walked, and the walk may begin at block k
abbrev pub MayWalkFrom : Option Payload → ℕ → Type 0
MayWalkFrom pi k = (pool : List (List ℕ)) × ((count : ℕ) × (WalksTuples pool count pi × (k ≤ count)))

pub record Walkable (pool : List (List ℕ)) (io : Io) : Type 0 where
  pub some : 0 < io.count
  pub lies : AllLieIn pool io.body
  pub tuples : WalksTuples pool io.count io.pi

abbrev pub tuples_ahead : Option Payload → ℕ → Option (List Seg)
tuples_ahead None k = None
tuples_ahead (Some pi) k = Some (past (TUPLE * k) pi.tuples)

-- It stands before a block of the request that goes this way.
pub record IsBefore (io : Io) (r : Route) (w : Walks) : Type 0 where
  pub route : w.route ≡ r
  pub body : w.body ≡ past (r.label.k * block_size io) io.body
  pub tuples : w.tuples ≡ tuples_ahead io.pi r.label.k

-- no byte of its lists is there twice
abbrev pub TuplesOnce : Option Payload → Type 0
TuplesOnce None = Unit {0}
TuplesOnce (Some pi) = NoneTwice (places_in pi.tuples)

pub record IsOnce (io : Io) : Type 0 where
  pub body : NoneTwice (places_in io.body)
  pub tuples : TuplesOnce io.pi

-- A request has tuples exactly where the host has them.
abbrev pub HasHost : Bool → Option Payload → Type 0
HasHost true None = ⊥
HasHost true (Some pi) = Unit {0}
HasHost false None = Unit {0}
HasHost false (Some pi) = ⊥

-- ---- the block that is ahead

-- Behind the block comes one that has a number, a virtual address and an address.
pub record HasNext (r : Route) : Type 0 where
  pub k : r.label.k + 1 < 2 ^ 32
  pub virt : r.virt + 1 < 2 ^ 64
  pub lba : r.lba + 1 < 2 ^ 64

-- the route of the block behind it
abbrev pub next_route : Route → Route
next_route r = record r { label = record r.label { k = r.label.k + 1 }; virt = r.virt + 1; lba = r.lba + 1 }

-- Tuples are ahead exactly where the host has them.
abbrev pub HostAhead : Bool → Option (List Seg) → Type 0
HostAhead true None = ⊥
HostAhead true (Some ss) = Unit {0}
HostAhead false None = Unit {0}
HostAhead false (Some ss) = ⊥

-- where tuples are ahead, the next of them lies in a pool of so many pages
abbrev pub HasTuple : (pages : ℕ) → Option (List Seg) → Type 0
HasTuple pages None = Unit {0}
HasTuple pages (Some ss) = AllStandIn pages (range_of ss 0 TUPLE) × (TUPLE ≤ total ss)

-- The block lies in the pool, with a tuple exactly where the host has tuples, and behind it comes one that can be told.
pub record HasBlock (pool : List (List ℕ)) (w : Walks) : Type 0 where
  pub whole : AreWhole pool
  pub body : AllStandIn (length pool) (range_of w.body 0 w.route.size)
  pub room : w.route.size ≤ total w.body
  pub tuple : HasTuple (length pool) w.tuples
  pub host : HostAhead w.route.mode.dix w.tuples
  pub next : HasNext w.route

abbrev pub TupleOnce : Option (List Seg) → Type 0
TupleOnce None = Unit {0}
TupleOnce (Some ss) = NoneTwice (range_of ss 0 TUPLE)

-- No byte of its data is there twice, and none of its tuple.
pub record BlockOnce (w : Walks) : Type 0 where
  pub body : NoneTwice (range_of w.body 0 w.route.size)
  pub tuple : TupleOnce w.tuples

-- the bytes of the next tuple, or these where there is none
abbrev pub tuple_or : (pool : List (List ℕ)) → Option (List Seg) → List ℕ → List ℕ
tuple_or pool None others = others
tuple_or pool (Some ss) others = bytes_in pool ss 0 TUPLE

-- its cells
abbrev pub tuple_ahead : Option (List Seg) → List ℕ
tuple_ahead None = []
tuple_ahead (Some ss) = map cell (range_of ss 0 TUPLE)

-- the cells of the block's frame
abbrev pub cells_ahead : Walks → List ℕ
cells_ahead w = map cell (range_of w.body 0 w.route.size) ++ tuple_ahead w.tuples

abbrev pub past_tuple : Option (List Seg) → Option (List Seg)
past_tuple None = None
past_tuple (Some ss) = Some (past TUPLE ss)

-- It went past the block.
pub record WentPast (w w' : Walks) : Type 0 where
  pub route : w'.route ≡ next_route w.route
  pub body : w'.body ≡ past w.route.size w.body
  pub tuples : w'.tuples ≡ past_tuple w.tuples
