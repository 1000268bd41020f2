use Rattle.std.specs.Prelude.{◌≡◌, ◌≢◌, ℕ, ◌+◌, ◌/◌, ◌<◌, ◌≤◌, ◌⊎◌, List, take, drop, length, slice_index, Option}
use Rattle.std.specs.Int.{w32, from_be_bytes}
use Rattle.pi_tuple.specs.Tuples.{ref_tag}
use Rattle.pi_blocks.specs.Blocks.{AreFine, Block, Checked, apart, in_line}
use Rattle.pi_blocks.specs.Layouts.{stride_of}
use Rattle.pi_blocks.specs.Made.{made_apart, made_bytes, made_in_line, place_apart, place_in_line}
use Rattle.pi_blocks.specs.Mapped.{all_mapped, mapped_tag, tag_in, tag_place}
use Rattle.pi_blocks.specs.declared.block.Found.{Found}
use Rattle.pi_blocks.specs.declared.block.Want.{Want}
use Rattle.pi_blocks.specs.declared.layout.Layout.{Layout}

-- how many blocks these are
abbrev pub count_of : Layout → List ℕ → ℕ
count_of l bytes = length bytes / stride_of l

-- a stretch of bytes shares none with the pieces of this width at n places
abbrev pub IsClear : (ℕ → ℕ) → ℕ → ℕ → ℕ → ℕ → Type 0
IsClear place width n at size = (i : ℕ) → i < n → (at + size ≤ place i) ⊎ (place i + width ≤ at)

-- a check has one answer
abbrev pub HasOneAnswer : Layout → Want → (ℕ → Block) → (start n : ℕ) → Type 0
HasOneAnswer l w blocks start n = (a b : Option Found) → Checked l w blocks start n a → Checked l w blocks start n b → a ≡ b

-- each tag is mapped by itself, and every other byte stays
pub record MapsTagsAlone (l : Layout) (from to : ℕ) (bytes : List ℕ) : Type 0 where
  pub long : length (all_mapped l from to (count_of l bytes) bytes) ≡ length bytes
  pub tags : (i : ℕ) → i < count_of l bytes → tag_in l (all_mapped l from to (count_of l bytes) bytes) i ≡ mapped_tag l from to bytes i
  pub others : (at size : ℕ) → IsClear (tag_place l) 4 (count_of l bytes) at size → take size (drop at (all_mapped l from to (count_of l bytes) bytes)) ≡ take size (drop at bytes)

-- each is a byte
abbrev pub AreBytes : List ℕ → Type 0
AreBytes bytes = (k : ℕ) → slice_index bytes k < 256

-- no block has the tag that mapping gives it
abbrev pub AreFree : Layout → ℕ → List ℕ → Type 0
AreFree l to bytes = (i : ℕ) → i < count_of l bytes → from_be_bytes w32 (tag_in l bytes i) ≢ ref_tag (to + i)

-- mapping with the tags exchanged gives the bytes back
abbrev pub IsUndone : Layout → ℕ → ℕ → List ℕ → Type 0
IsUndone l from to bytes = all_mapped l to from (count_of l bytes) (all_mapped l from to (count_of l bytes) bytes) ≡ bytes

-- the same is wanted of blocks whose tags begin elsewhere
abbrev pub beginning_at : Want → ℕ → Want
beginning_at w first = record { first_ref = first; app = w.app; mask = w.mask; checks = w.checks }

-- blocks that are fine by their tags stay so by those that they are mapped to
abbrev pub StayFine : Layout → Want → ℕ → List ℕ → Type 0
StayFine l w to bytes =
    AreFine l w (in_line l bytes) (count_of l bytes) → AreFine l (beginning_at w to) (in_line l (all_mapped l w.first_ref to (count_of l bytes) bytes)) (count_of l bytes)

-- a check by the tags that blocks were made with finds nothing
abbrev pub AreFineWhenMade : Layout → Want → List ℕ → Type 0
AreFineWhenMade l w bytes = AreFine l w (in_line l (made_in_line l w.app w.first_ref (count_of l bytes) bytes)) (count_of l bytes)

-- the same of data and metadata in buffers of their own
abbrev pub AreFineWhenMadeApart : Layout → Want → List ℕ → List ℕ → Type 0
AreFineWhenMadeApart l w body meta = AreFine l w (apart l body (made_apart l w.app w.first_ref (length meta / l.meta_size) body meta)) (length meta / l.meta_size)

-- each tuple is made, and every other byte stays
pub record MakesTuplesAlone (l : Layout) (app first : ℕ) (bytes : List ℕ) : Type 0 where
  pub long : length (made_in_line l app first (count_of l bytes) bytes) ≡ length bytes
  pub tuples : (i : ℕ) → i < count_of l bytes → (in_line l (made_in_line l app first (count_of l bytes) bytes) i).tuple ≡ made_bytes l app first (in_line l bytes) i
  pub others : (at size : ℕ) → IsClear (place_in_line l) 8 (count_of l bytes) at size → take size (drop at (made_in_line l app first (count_of l bytes) bytes)) ≡ take size (drop at bytes)

-- the same of metadata
pub record MakesTuplesApart (l : Layout) (app first : ℕ) (body meta : List ℕ) : Type 0 where
  pub long : length (made_apart l app first (length meta / l.meta_size) body meta) ≡ length meta
  pub tuples : (i : ℕ) → i < length meta / l.meta_size → (apart l body (made_apart l app first (length meta / l.meta_size) body meta) i).tuple ≡ made_bytes l app first (apart l body meta) i
  pub others : (at size : ℕ) → IsClear (place_apart l) 8 (length meta / l.meta_size) at size → take size (drop at (made_apart l app first (length meta / l.meta_size) body meta)) ≡ take size (drop at meta)
