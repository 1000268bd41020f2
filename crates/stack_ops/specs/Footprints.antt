-- What each op touches.
use Rattle.std.specs.Prelude.{ℕ, ◌<◌, ◌^◌, Bool, true, false, List, [], ◌∷◌, ◌++◌, length, map, Option, Some, None}
use Rattle.page_pool.specs.declared.segs.Seg.{Seg}
use Rattle.range_gate.specs.declared.footprint.Reach.{Reach}
use Rattle.range_gate.specs.declared.footprint.Touch.{Touch}
use Rattle.range_gate.specs.declared.footprint.Footprint.{Footprint}
use Rattle.range_gate.specs.Cells.{Cells, cells_of}
use Rattle.stack_ops.specs.declared.op.Op.{Op}
use Rattle.stack_ops.specs.declared.op.Op.TheVariants.{Fill, Put, Show, Seal, Write, Fetch, WritePi, FetchPi, Overwrite, Wait}

-- these segments are read, or written
abbrev pub touches : Bool → List Seg → List Touch
touches writes segs = map (λ s. record { seg = s; writes = writes }) segs

-- the bytes that a `put` sets
abbrev pub put_seg : ℕ → ℕ → List ℕ → Seg
put_seg page off bytes = record { page = page; off = off; len = length bytes }

-- `fill` and `put` write their bytes, `show` reads them, `seal` reads data and writes tuples; a write reads its data
-- and writes the tuples that the application brought, a read writes its data and the tuples that the application takes
abbrev pub bytes_of : Op → List Touch
bytes_of (Fill seg byte) = touches true (seg ∷ [])
bytes_of (Put page off bytes) = touches true (put_seg page off bytes ∷ [])
bytes_of (Show seg) = touches false (seg ∷ [])
bytes_of (Seal n body tuples app rtag) = touches false body ++ touches true tuples
bytes_of (Write v n body app) = touches false body
bytes_of (Fetch v n body) = touches true body
bytes_of (WritePi v n body tuples) = touches false body ++ touches true tuples
bytes_of (FetchPi v n body tuples) = touches true body ++ touches true tuples
bytes_of (Overwrite dev lba change) = []
bytes_of Wait = []

-- a write writes its virtual blocks, a read reads them
abbrev pub reach_of : Op → Option Reach
reach_of (Fill seg byte) = None
reach_of (Put page off bytes) = None
reach_of (Show seg) = None
reach_of (Seal n body tuples app rtag) = None
reach_of (Write v n body app) = Some (record { first = v; count = n; writes = true })
reach_of (Fetch v n body) = Some (record { first = v; count = n; writes = false })
reach_of (WritePi v n body tuples) = Some (record { first = v; count = n; writes = true })
reach_of (FetchPi v n body tuples) = Some (record { first = v; count = n; writes = false })
reach_of (Overwrite dev lba change) = None
reach_of Wait = None

-- `wait`, `overwrite` and a shifted request are alone
abbrev pub is_alone : Op → Bool → Bool
is_alone (Fill seg byte) shifted = false
is_alone (Put page off bytes) shifted = false
is_alone (Show seg) shifted = false
is_alone (Seal n body tuples app rtag) shifted = false
is_alone (Write v n body app) shifted = shifted
is_alone (Fetch v n body) shifted = shifted
is_alone (WritePi v n body tuples) shifted = shifted
is_alone (FetchPi v n body tuples) shifted = shifted
is_alone (Overwrite dev lba change) shifted = true
is_alone Wait shifted = true

abbrev pub footprint : Op → Bool → Footprint
footprint op shifted = record { alone = is_alone op shifted; blocks = reach_of op; bytes = bytes_of op }

-- a `put` has fewer than 2^32 bytes
abbrev pub IsShortPut : Op → Type 0
IsShortPut (Fill seg byte) = Unit {0}
IsShortPut (Put page off bytes) = length bytes < 2 ^ 32
IsShortPut (Show seg) = Unit {0}
IsShortPut (Seal n body tuples app rtag) = Unit {0}
IsShortPut (Write v n body app) = Unit {0}
IsShortPut (Fetch v n body) = Unit {0}
IsShortPut (WritePi v n body tuples) = Unit {0}
IsShortPut (FetchPi v n body tuples) = Unit {0}
IsShortPut (Overwrite dev lba change) = Unit {0}
IsShortPut Wait = Unit {0}

-- the bytes of pages that an op reads and writes, as cells of all pages one after another
abbrev pub cells_touched : Op → Cells
cells_touched (Fill seg byte) = record { reads = []; writes = cells_of (seg ∷ []) }
cells_touched (Put page off bytes) = record { reads = []; writes = cells_of (put_seg page off bytes ∷ []) }
cells_touched (Show seg) = record { reads = cells_of (seg ∷ []); writes = [] }
cells_touched (Seal n body tuples app rtag) = record { reads = cells_of body; writes = cells_of tuples }
cells_touched (Write v n body app) = record { reads = cells_of body; writes = [] }
cells_touched (Fetch v n body) = record { reads = []; writes = cells_of body }
cells_touched (WritePi v n body tuples) = record { reads = cells_of body; writes = cells_of tuples }
cells_touched (FetchPi v n body tuples) = record { reads = []; writes = cells_of body ++ cells_of tuples }
cells_touched (Overwrite dev lba change) = record { reads = []; writes = [] }
cells_touched Wait = record { reads = []; writes = [] }
