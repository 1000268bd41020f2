use Rattle.std.specs.Prelude.{◌≡◌, ℕ, ◌+◌, ◌*◌, ◌%◌, List, [], ◌∷◌, true}
use Rattle.page_pool.specs.declared.segs.Seg.{Seg}
use Rattle.page_pool.specs.Places.{PageByte, range_of, total}
use Rattle.page_pool.specs.Cells.{joined}
use Rattle.page_pool.specs.Pages.{bytes_at, bytes_in}
use Rattle.pi_guard.specs.declared.GuardKind.{GuardKind}
use Rattle.pi_guard.specs.Guards.{guard_of}
use Rattle.pi_tuple.specs.declared.tuple.Tuple.{Tuple}
use Rattle.pi_tuple.specs.declared.checks.PiType.{PiType}
use Rattle.pi_tuple.specs.declared.checks.Checks.{Checks}
use Rattle.pi_tuple.specs.Finds.{own_tag}
use Rattle.pi_tuple.specs.Tuples.{tuple_bytes, tuple_in}
use Rattle.integrity_payload.specs.declared.payload.Payload.{Payload}
use Rattle.pi_tuple.specs.declared.TheConstants.{TUPLE}

-- each segment holds whole tuples, so that each tuple lies in one segment
abbrev pub AreWholeTuples : List Seg → Type 0
AreWholeTuples [] = Unit {0}
AreWholeTuples (s ∷ ss) = (s.len % 8 ≡ 0) × AreWholeTuples ss

-- the tuple list has eight bytes for each tuple, and each tuple lies in one segment
pub record IsPayload (pi : Payload) : Type 0 where
  pub whole : AreWholeTuples pi.tuples
  pub long : total pi.tuples ≡ TUPLE * pi.count

-- the places of a tuple's eight bytes in its list
abbrev pub tuple_places : List Seg → ℕ → List PageByte
tuple_places segs k = range_of segs (TUPLE * k) TUPLE

-- the tuple that these eight bytes spell
abbrev pub tuple_of : List (List ℕ) → List Seg → ℕ → Tuple
tuple_of pool segs k = tuple_in (bytes_at pool (tuple_places segs k))

-- the eight bytes are this tuple's, and spell it
pub record HoldsTuple (pool : List (List ℕ)) (segs : List Seg) (k : ℕ) (t : Tuple) : Type 0 where
  pub bytes : bytes_at pool (tuple_places segs k) ≡ tuple_bytes t
  pub reads : tuple_of pool segs k ≡ t

-- the data of a block
abbrev pub block_of : List (List ℕ) → List Seg → ℕ → ℕ → List ℕ
block_of pool body size k = bytes_in pool body (k * size) size

-- the tuple that is made for a block
abbrev pub made_tuple : List (List ℕ) → List Seg → ℕ → GuardKind → PiType → ℕ → ℕ → ℕ → Tuple
made_tuple pool body size kind ty seed app k = record { guard = guard_of kind (block_of pool body size k); app = app; rtag = own_tag ty (seed + k) }

-- the bytes of the tuples that are made for the first n blocks, one after another
abbrev pub made_bytes : List (List ℕ) → List Seg → ℕ → GuardKind → PiType → ℕ → ℕ → ℕ → List ℕ
made_bytes pool body size kind ty seed app n = joined (λ i. tuple_bytes (made_tuple pool body size kind ty seed app i)) n

-- guard, application tag under the mask and reference tag are asked
abbrev pub all_asked : ℕ → ℕ → Checks
all_asked app mask = record { guard = true; rtag = true; app = app; mask = mask }
