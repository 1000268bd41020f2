-- A bio on its way, block after block: what is asked of it, and what its blocks leave.
use Rattle.std.specs.Prelude.{◌≡◌, ℕ, ◌+◌, ◌<◌, ◌≤◌, ◌^◌, List, ◌++◌, length, map, take, drop}
use Rattle.page_pool.specs.Cells.{flat}
use Rattle.page_pool.specs.Pages.{AreWhole}
use Rattle.bio_core.specs.declared.bio.Bio.{Bio}
use Rattle.bio_core.specs.declared.fate.Fate.{Fate}
use Rattle.bio_core.specs.declared.request.Io.{Io}
use Rattle.rig_api.specs.Passed.{frames_of}
use Rattle.block_path.specs.Routes.{wire_size}
use Rattle.block_path.specs.WayIn.{from_wire}
use Rattle.dix_adapter.specs.declared.walks.Walks.{Walks}
use Rattle.dix_adapter.specs.declared.adapter.Adapter.{Adapter}
use Rattle.dix_adapter.specs.Carried.{carried, comes_first, fates_in, frame_len, land, landed, lands_first}
use Rattle.dix_adapter.specs.Groups.{EndsInTime, blocks_in, route_by}
use Rattle.dix_adapter.specs.Walking.{HasHost, Walkable, cells_ahead}

-- A bio of a request can go its way: the pages are whole, one can walk along its blocks, each has a number, an address and a virtual address, and the request has tuples where the host has them.
pub record CanGo (a : Adapter) (pool : List (List ℕ)) (io : Io) (b : Bio) : Type 0 where
  pub whole : AreWhole pool
  pub walks : Walkable pool io
  pub within : b.k + b.count ≤ io.count
  pub ends : EndsInTime b
  pub fits : io.first + io.count < 2 ^ 64
  pub host : HasHost a.dix io.pi

-- The block before which the walk stands was judged by the frame at the front of these bytes, and landed in its cells where it is good; the pages are as many, and whole.
pub record HasLandedNext (a : Adapter) (w : Walks) (bytes : List ℕ) (pool pool' : List (List ℕ)) (fate : Fate) : Type 0 where
  pub fate_is : fate ≡ carried (from_wire a.tamper w.route (take (wire_size w.route) bytes))
  pub cells : flat pool' ≡ land (cells_ahead w) (from_wire a.tamper w.route (take (wire_size w.route) bytes)) (flat pool)
  pub pages : length pool' ≡ length pool
  pub whole : AreWhole pool'

-- So did the first n blocks of a bio, whose frames stand one after another at the front of these bytes; what became of each was added to the list.
pub record HasLandedFirst (a : Adapter) (io : Io) (b : Bio) (n : ℕ) (bytes : List ℕ) (pool pool' : List (List ℕ)) (fates fates' : List Fate) : Type 0 where
  pub fates_are : fates' ≡ fates ++ map carried (comes_first a io b (wire_size (route_by a io b 0)) bytes n)
  pub cells : flat pool' ≡ lands_first a io b (wire_size (route_by a io b 0)) bytes (flat pool) n
  pub pages : length pool' ≡ length pool
  pub whole : AreWhole pool'

-- So did a group's first blocks, so many of them.
pub record HasLanded (a : Adapter) (ios : List Io) (req : List Bio) (done : ℕ) (bytes : List ℕ) (pool pool' : List (List ℕ)) (fates : List Fate) : Type 0 where
  pub fates_are : fates ≡ fates_in a ios (blocks_in req) (frames_of (frame_len a ios req) done bytes)
  pub count : length fates ≡ done
  pub cells : flat pool' ≡ landed a ios (blocks_in req) (frames_of (frame_len a ios req) done bytes) (flat pool)
  pub pages : length pool' ≡ length pool
  pub whole : AreWhole pool'

-- What stands in the buffer from a place on is as it was, and the buffer is as long.
pub record KeepsBehind (at : ℕ) (old new : List ℕ) : Type 0 where
  pub behind : drop at new ≡ drop at old
  pub long : length new ≡ length old
