-- What settling does to the pages, step by step, and what becomes of each block.
use Rattle.std.specs.Prelude.{◌≡◌, ℕ, zero, suc, ◌+◌, ◌-◌, ◌*◌, List, take, get_or, set, replicate, Option, Some, None}
use Rattle.page_pool.specs.Pages.{Wrote}
use Rattle.page_pool.specs.Places.{range_of}
use Rattle.pi_guard.specs.Guards.{guard_of}
use Rattle.pi_tuple.specs.Finds.{finding}
use Rattle.pi_tuple.specs.Tuples.{ref_tag}
use Rattle.pi_tuple.specs.declared.checks.PiType.{PiType}
use Rattle.integrity_payload.specs.declared.payload.Payload.{Payload}
use Rattle.integrity_payload.specs.Payloads.{all_asked, block_of, tuple_of, tuple_places}
use Rattle.block_path.specs.Passed.{AreRemapped}
use Rattle.bio_core.specs.declared.bio.Bio.{Bio}
use Rattle.bio_core.specs.declared.fate.Fate.{Fate}
use Rattle.bio_core.specs.declared.fate.Fate.TheVariants.{Good, Bad, Untouched}
use Rattle.bio_core.specs.declared.request.Dir.{Dir}
use Rattle.bio_core.specs.declared.request.Dir.TheVariants.{Read, Write}
use Rattle.bio_core.specs.declared.request.Io.{Io}
use Rattle.bio_core.specs.Bios.{block_size}
use Rattle.block_path.specs.declared.mode.Mode.{Mode}
use Rattle.stack_laws.specs.Passed.{no_bio, size}
use Rattle.stack_walk_laws.specs.Sheets.{io_at}
use Rattle.stack_walk_laws.specs.Settling.{fate_by}

-- ---- one block

-- zeros are written in place of its tuple, where it has one
abbrev pub TupleBlanked : Option Payload → (k : ℕ) → (old new : List (List ℕ)) → Type 0
TupleBlanked None k old new = new ≡ old
TupleBlanked (Some pi) k old new = Wrote old new (tuple_places pi.tuples k) (replicate 8 0)

-- and in place of its data before
pub record Blanked (io : Io) (k : ℕ) (old new : List (List ℕ)) : Type 0 where
  pub between : List (List ℕ)
  pub body : Wrote old between (range_of io.body (k * block_size io) (block_size io)) (replicate (block_size io) 0)
  pub tuple : TupleBlanked io.pi k between new

-- the tag of its tuple is mapped back to the virtual block
abbrev pub MappedBack : Option Payload → PiType → (k lba : ℕ) → (old new : List (List ℕ)) → Type 0
MappedBack None ty k lba old new = new ≡ old
MappedBack (Some pi) ty k lba old new = AreRemapped old new pi.tuples ty k 1 lba (pi.seed + k)

-- what the owner of its tuple finds
abbrev pub said_by : Payload → Mode → PiType → List (List ℕ) → Io → ℕ → Fate
said_by pi mode ty pool io k =
    fate_by pi.owner (finding ty (all_asked mode.app mode.mask) (ref_tag (pi.seed + k)) (guard_of mode.kind (block_of pool io.body (block_size io) k)) (tuple_of pool pi.tuples k))

-- A block that was carried well is mapped back, and its owner looks at it; any other stays as it is.
abbrev pub Judged : Option Payload → Fate → Mode → PiType → Io → (k lba : ℕ) → (old new : List (List ℕ)) → Fate → Type 0
Judged None fate mode ty io k lba old new result = (new ≡ old) × (result ≡ fate)
Judged (Some pi) Good mode ty io k lba old new result = AreRemapped old new pi.tuples ty k 1 lba (pi.seed + k) × (result ≡ said_by pi mode ty new io k)
Judged (Some pi) (Bad why) mode ty io k lba old new result = (new ≡ old) × (result ≡ Bad why)
Judged (Some pi) Untouched mode ty io k lba old new result = (new ≡ old) × (result ≡ Untouched)

-- what is left of a block of a read: itself if it is good, else zeros
abbrev pub LeftBy : Fate → Io → (k : ℕ) → (old new : List (List ℕ)) → Type 0
LeftBy Good io k old new = new ≡ old
LeftBy (Bad why) io k old new = Blanked io k old new
LeftBy Untouched io k old new = Blanked io k old new

pub record ReadSettled (mode : Mode) (ty : PiType) (io : Io) (k lba : ℕ) (fate : Fate) (old new : List (List ℕ)) (result : Fate) : Type 0 where
  pub between : List (List ℕ)
  pub judged : Judged io.pi fate mode ty io k lba old between result
  pub left : LeftBy result io k between new

abbrev pub Settled : Dir → Mode → PiType → Io → (k lba : ℕ) → Fate → (old new : List (List ℕ)) → Fate → Type 0
Settled Read mode ty io k lba fate old new result = ReadSettled mode ty io k lba fate old new result
Settled Write mode ty io k lba fate old new result = MappedBack io.pi ty k lba old new × (result ≡ fate)

-- ---- the blocks of commands, in turn

-- The pages, and what became of each block of all requests.
pub record KeptFates : Type 0 where
  pub pages : List (List ℕ)
  pub held : List Fate

pub record IsSettled (mode : Mode) (ty : PiType) (io : Io) (start k lba : ℕ) (fate : Fate) (old new : KeptFates) : Type 0 where
  pub result : Fate
  pub settled : Settled io.dir mode ty io k lba fate old.pages new.pages result
  pub held : new.held ≡ set old.held (start + k) result

-- a block, unless it is untouched; the blocks of its request begin at this place
abbrev pub OneSettled : Mode → PiType → Io → (start k lba : ℕ) → Fate → (old new : KeptFates) → Type 0
OneSettled mode ty io start k lba Good old new = IsSettled mode ty io start k lba Good old new
OneSettled mode ty io start k lba (Bad why) old new = IsSettled mode ty io start k lba (Bad why) old new
OneSettled mode ty io start k lba Untouched old new = new ≡ old

-- the first n blocks of a bio, whose fates begin at this place
abbrev pub BioSettled : Mode → PiType → Io → (start : ℕ) → Bio → List Fate → (at n : ℕ) → (old new : KeptFates) → Type 0
BioSettled mode ty io start bio fates at zero old new = new ≡ old
BioSettled mode ty io start bio fates at (suc n) old new =
    (between : KeptFates) × BioSettled mode ty io start bio fates at n old between × OneSettled mode ty io start (bio.k + n) (bio.lba + n) (get_or fates (at + n) Good) between new

-- the first n bios of a command
abbrev pub AllSettled : Mode → PiType → List Io → (starts : List ℕ) → List Bio → List Fate → (n : ℕ) → (old new : KeptFates) → Type 0
AllSettled mode ty ios starts bios fates zero old new = new ≡ old
AllSettled mode ty ios starts bios fates (suc n) old new =
    let bio = get_or bios n no_bio in
    (between : KeptFates) × AllSettled mode ty ios starts bios fates n old between
    × BioSettled mode ty (io_at ios (bio.op - 1)) (get_or starts (bio.op - 1) 0) bio fates (size (take n bios)) bio.count between new
