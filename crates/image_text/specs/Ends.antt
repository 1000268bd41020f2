use Rattle.std.specs.Prelude.{ℕ, ◌≡◌, ◌+◌, ◌*◌, ◌<◌, ◌≤◌, true, List, [], ◌∷◌, ◌++◌, length, Option, Result, Ok, Err}
use Rattle.dix_base.specs.Told.{Apart, Appended, AppendedSome, Becomes, IsAtEnd, Rose, Took}
use Rattle.rig_api.specs.Frames.{joined}
use Rattle.rig_api.specs.Headers.{image_size}
use Rattle.rig_api.specs.Image.{units_in}
use Rattle.rig_api.specs.Target.{Stored}
use Rattle.rig_api.specs.declared.units.UnitSpec.{UnitSpec}
use Rattle.target_model.specs.Served.{AllLong}
use Rattle.image_rig.specs.LayoutPlaces.{block_len, block_place}
use Rattle.image_blocks.specs.declared.stretch.Stretch.{Stretch}
use Rattle.image_blocks.specs.Blocks.{HasStretch, blocks_at, blocks_of, with_stretch}
use Rattle.image_blocks.specs.Places.{IsStretch, spec_of}
use Rattle.image_text.specs.declared.layout.Layout.{Layout}
use Rattle.image_text.specs.declared.layout.Layout.TheVariants.{Interleaved, Plain, Tuples}
use Rattle.image_blocks.specs.declared.fault.WalkFault.{WalkFault}
use Rattle.image_blocks.specs.declared.fault.WalkFault.TheVariants as dump
use Rattle.image_text.specs.declared.dumps_fault.ImportFault.{ImportFault}
use Rattle.image_text.specs.declared.dumps_fault.ImportFault.TheVariants as import
use Rattle.image_text.specs.Dumps.{dump_of, fits, imported, piece_len}

-- ---- out

-- the dump of a stretch's blocks
abbrev pub dump_in : Layout → List UnitSpec → Stretch → List (List ℕ) → List ℕ
dump_in layout us s blocks = dump_of layout (spec_of us s.dev).size blocks

-- What was written is the dump of blocks of the stretch. Where the image is told they are the stored ones.
pub record HasDumped (layout : Layout) (us : List UnitSpec) (s : Stretch) (image : Option (List ℕ)) (old new : Option (List ℕ)) : Type 0 where
  pub blocks : List (List ℕ)
  pub has : HasStretch us s blocks image
  pub written : Appended (dump_in layout us s blocks) old new

-- What was written is the beginning of such a dump.
pub record HasDumpedSome (layout : Layout) (us : List UnitSpec) (s : Stretch) (image : Option (List ℕ)) (old new : Option (List ℕ)) : Type 0 where
  pub blocks : List (List ℕ)
  pub has : HasStretch us s blocks image
  pub written : AppendedSome (dump_in layout us s blocks) old new

-- How an export ends: all was written, or store or sink failed, whose count rose.
abbrev pub DumpEnds : {X : Type 0} → Result X WalkFault → Layout → List UnitSpec → Stretch → (image : Option (List ℕ)) → (stores stores_after sinks sinks_after : ℕ) → (old new : Option (List ℕ)) → Type 0
DumpEnds (Ok x) layout us s image o n p q old new = HasDumped layout us s image old new
DumpEnds (Err dump.Store) layout us s image o n p q old new = Rose o n × HasDumpedSome layout us s image old new
DumpEnds (Err dump.Sink) layout us s image o n p q old new = Rose p q × HasDumpedSome layout us s image old new

-- ---- in

-- The image has the stretch, whose blocks have what the layout holds, and the store has just the length of the image.
pub record CanTake (layout : Layout) (us : List UnitSpec) (s : Stretch) (len : ℕ) : Type 0 where
  pub there : IsStretch us s
  pub fits : fits layout (spec_of us s.dev).ty ≡ true
  pub held : len ≡ image_size us

-- the bytes of the piece of a stretch's block
abbrev pub each_len : Layout → List UnitSpec → Stretch → ℕ
each_len layout us s = piece_len layout (spec_of us s.dev).ty (spec_of us s.dev).size

-- what is stored of pieces in a stretch of these units, from its first block on
abbrev pub imported_in : Layout → List UnitSpec → Stretch → List Stored → List (List ℕ) → List (List ℕ)
imported_in layout us s found pieces = imported layout (spec_of us s.dev).ty (spec_of us s.dev).size s.first (blocks_at found s) pieces

-- For tuples alone these bytes are those of the stretch's stored blocks.
abbrev pub HasOwn : Layout → List UnitSpec → Stretch → List ℕ → Option (List ℕ) → Type 0
HasOwn Interleaved us s bytes image = Unit {0}
HasOwn Plain us s bytes image = Unit {0}
HasOwn Tuples us s bytes image = HasStretch us s (blocks_of us s bytes) image

-- Where the image is told, its units are as before, with what is stored of these pieces at the front of the stretch, and these blocks behind it.
abbrev pub ArePieces : Layout → List UnitSpec → Stretch → (pieces others : List (List ℕ)) → (image image_after : Option (List ℕ)) → Type 0
ArePieces layout us s pieces others image image_after =
    Becomes (λ was is. units_in us is ≡ with_stretch (units_in us was) s (imported_in layout us s (units_in us was) pieces ++ others)) image image_after

-- The units are as before, with some blocks of their length at the front of the stretch.
pub record HasSome (us : List UnitSpec) (s : Stretch) (was is : List ℕ) : Type 0 where
  pub left : List (List ℕ)
  pub long : AllLong (block_len us s.dev) left
  pub few : length left ≤ s.count
  pub put : units_in us is ≡ with_stretch (units_in us was) s left

-- So it is where the image is told.
abbrev pub AreSome : List UnitSpec → Stretch → (image image_after : Option (List ℕ)) → Type 0
AreSome us s image image_after = Becomes (HasSome us s) image image_after

-- Where the image is told, its length and each byte outside of the stretch are as before.
abbrev pub KeepsOutside : List UnitSpec → Stretch → (image image_after : Option (List ℕ)) → Type 0
KeepsOutside us s image image_after = Becomes (Apart (block_place us s.dev s.first) (s.count * block_len us s.dev)) image image_after

-- So many pieces came, and behind them more bytes. At the front of the stretch stands what is stored of them, behind it these blocks, and all else is as before.
pub record HasTaken (layout : Layout) (us : List UnitSpec) (s : Stretch) (n : ℕ) (more : List ℕ) (others : List (List ℕ)) (image image_after left left_after : Option (List ℕ)) : Type 0 where
  pub pieces : List (List ℕ)
  pub many : length pieces ≡ n
  pub long : AllLong (piece_len layout (spec_of us s.dev).ty (spec_of us s.dev).size) pieces
  pub taken : Took (joined pieces ++ more) left left_after
  pub put : ArePieces layout us s pieces others image image_after

-- Fewer pieces came than the stretch has blocks, and behind them less than a piece.
pub record IsShort (layout : Layout) (us : List UnitSpec) (s : Stretch) (n : ℕ) (image image_after left left_after : Option (List ℕ)) : Type 0 where
  pub more : List ℕ
  pub few : n < s.count
  pub less : length more < piece_len layout (spec_of us s.dev).ty (spec_of us s.dev).size
  pub has : HasTaken layout us s n more [] image image_after left left_after
  pub end : IsAtEnd left_after

-- Some pieces came, and maybe more bytes.
pub record IsUnread (layout : Layout) (us : List UnitSpec) (s : Stretch) (image image_after left left_after : Option (List ℕ)) : Type 0 where
  pub n : ℕ
  pub more : List ℕ
  pub few : n ≤ s.count
  pub has : HasTaken layout us s n more [] image image_after left left_after

-- Some pieces came, and maybe more bytes. Behind their blocks others may be anything: not more than the stretch has, in not more than so many bytes.
pub record IsUnstored (layout : Layout) (us : List UnitSpec) (s : Stretch) (most : ℕ) (image image_after left left_after : Option (List ℕ)) : Type 0 where
  pub n : ℕ
  pub more : List ℕ
  pub others : List (List ℕ)
  pub few : n + length others ≤ s.count
  pub held : length others * block_len us s.dev ≤ most
  pub long : AllLong (block_len us s.dev) others
  pub has : HasTaken layout us s n more others image image_after left left_after

-- How the taking of a stretch's pieces ends: all came, or fewer, or store or source failed, whose count rose. What is behind them isn't looked at.
abbrev pub TakingEnds : Result ℕ ImportFault → Layout → List UnitSpec → Stretch → (most : ℕ) → (stores stores_after sources sources_after : ℕ) → (image image_after left left_after : Option (List ℕ)) → Type 0
TakingEnds (Ok n) layout us s most o m p q image image_after left left_after = (n ≡ s.count) × HasTaken layout us s n [] [] image image_after left left_after
TakingEnds (Err (import.Short n)) layout us s most o m p q image image_after left left_after = IsShort layout us s n image image_after left left_after
TakingEnds (Err import.Long) layout us s most o m p q image image_after left left_after = ⊥
TakingEnds (Err import.Store) layout us s most o m p q image image_after left left_after = Rose o m × IsUnstored layout us s most image image_after left left_after
TakingEnds (Err import.Source) layout us s most o m p q image image_after left left_after = Rose p q × IsUnread layout us s image image_after left left_after

-- How an import ends: all pieces came and nothing more, and no call of the source failed; or fewer came, or one byte more, or store or source failed, whose count rose.
abbrev pub ImportEnds : Result ℕ ImportFault → Layout → List UnitSpec → Stretch → (most : ℕ) → (stores stores_after sources sources_after : ℕ) → (image image_after left left_after : Option (List ℕ)) → Type 0
ImportEnds (Ok n) layout us s most o m p q image image_after left left_after = (n ≡ s.count) × HasTaken layout us s n [] [] image image_after left left_after × IsAtEnd left_after × (q ≡ p)
ImportEnds (Err (import.Short n)) layout us s most o m p q image image_after left left_after = IsShort layout us s n image image_after left left_after
ImportEnds (Err import.Long) layout us s most o m p q image image_after left left_after = (byte : ℕ) × HasTaken layout us s s.count (byte ∷ []) [] image image_after left left_after
ImportEnds (Err import.Store) layout us s most o m p q image image_after left left_after = Rose o m × IsUnstored layout us s most image image_after left left_after
ImportEnds (Err import.Source) layout us s most o m p q image image_after left left_after = Rose p q × IsUnread layout us s image image_after left left_after

-- the number of pieces of a dump that is short
abbrev pub pieces_of : ImportFault → ℕ
pieces_of (import.Short n) = n
pieces_of import.Long = 0
pieces_of import.Store = 0
pieces_of import.Source = 0

-- the same fault behind so many pieces
abbrev pub behind_pieces : ℕ → ImportFault → ImportFault
behind_pieces done (import.Short n) = import.Short (done + n)
behind_pieces done import.Long = import.Long
behind_pieces done import.Store = import.Store
behind_pieces done import.Source = import.Source
