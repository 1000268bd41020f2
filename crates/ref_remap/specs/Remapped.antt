use Rattle.std.specs.Prelude.{◌≡◌, ℕ, ◌+◌, ◌*◌, ◌<◌, eqb, ◌&&◌, ◌||◌, ◌⊎◌, if◌then◌else◌, List, ◌++◌, take, drop}
use Rattle.std.specs.Int.{w32, from_be_bytes, to_be_bytes}
use Rattle.page_pool.specs.declared.segs.Seg.{Seg}
use Rattle.page_pool.specs.Cells.{joined}
use Rattle.page_pool.specs.Pages.{Wrote, bytes_at}
use Rattle.page_pool.specs.Places.{range_of}
use Rattle.pi_tuple.specs.declared.tuple.Tuple.{Tuple}
use Rattle.pi_tuple.specs.declared.checks.PiType.{PiType}
use Rattle.pi_tuple.specs.Finds.{has_ref_tag}
use Rattle.pi_tuple.specs.Tuples.{ref_tag}
use Rattle.integrity_payload.specs.Payloads.{HoldsTuple, tuple_of, tuple_places}
use Rattle.pi_tuple.specs.declared.TheConstants.{TUPLE}

-- a tuple with the tag of the one address gets that of the other, in types 1 and 2; any other stays
abbrev pub remapped : PiType → ℕ → ℕ → Tuple → Tuple
remapped ty from to t = if has_ref_tag ty && eqb t.rtag (ref_tag from) then record { guard = t.guard; app = t.app; rtag = ref_tag to } else t

-- the same of a tag's four bytes
abbrev pub remapped_tag : PiType → ℕ → ℕ → List ℕ → List ℕ
remapped_tag ty from to tag = if has_ref_tag ty && eqb (from_be_bytes w32 tag) (ref_tag from) then to_be_bytes w32 (ref_tag to) else tag

-- the same of a tuple's eight bytes: the first four stay
abbrev pub remapped_bytes : PiType → ℕ → ℕ → List ℕ → List ℕ
remapped_bytes ty from to b = take 4 b ++ remapped_tag ty from to (drop 4 b)

-- the same of the bytes of n tuples from tuple k on, whose addresses follow one another
abbrev pub all_remapped : List (List ℕ) → List Seg → PiType → ℕ → ℕ → ℕ → ℕ → List ℕ
all_remapped pool segs ty k from to n = joined (λ i. remapped_bytes ty (from + i) (to + i) (bytes_at pool (tuple_places segs (k + i)))) n

-- n tuples from tuple k on are mapped in place, and no other byte changed
pub record AreRemapped (old new : List (List ℕ)) (segs : List Seg) (ty : PiType) (k n from to : ℕ) : Type 0 where
  pub tuples : (i : ℕ) → i < n → HoldsTuple new segs (k + i) (remapped ty (from + i) (to + i) (tuple_of old segs (k + i)))
  pub wrote : Wrote old new (range_of segs (TUPLE * k) (TUPLE * n)) (all_remapped old segs ty k from to n)

-- u is what mapping out, once or twice, made of t
abbrev pub MappedOut : PiType → ℕ → ℕ → Tuple → Tuple → Type 0
MappedOut ty virtual physical t u = (u ≡ remapped ty virtual physical t) ⊎ (u ≡ remapped ty virtual physical (remapped ty virtual physical t))

-- a tag of either address is the virtual one, in types 1 and 2; any other stays
abbrev pub made_virtual : PiType → ℕ → ℕ → Tuple → Tuple
made_virtual ty virtual physical t =
    if has_ref_tag ty && (eqb t.rtag (ref_tag virtual) || eqb t.rtag (ref_tag physical)) then record { guard = t.guard; app = t.app; rtag = ref_tag virtual } else t
