use Rattle.std.specs.Prelude.{ℕ, zero, suc, ◌≡◌, ◌<◌, if◌then◌else◌, true, false, List, [], ◌∷◌, get_or, set}
use Rattle.pi_guard.specs.Guards.{crc}
use Rattle.pi_tuple.specs.Finds.{has_ref_tag, is_escaped, is_zero}
use Rattle.pi_tuple.specs.Tuples.{ref_tag}
use Rattle.stack_ops.specs.declared.op.Op.{Op}
use Rattle.block_path.specs.Passed.{data_of, frame_of, tuple_of}
use Rattle.volume_table.specs.Places.{place_in, volume_len}
use Rattle.page_pool.specs.Cells.{gather}
use Rattle.block_path.specs.Acts.{State, act}
use Rattle.block_path.specs.Blocks.{own_tuple}
use Rattle.block_path.specs.Routes.{host_type}
use Rattle.block_path.specs.Serial.{plain}
use Rattle.walk_laws.specs.PlainMap.{MapEntry, Plain, as_expected, own_in, tag_of}
use Rattle.walk_laws.specs.ScriptWalk.{act_of, acts_of}
use Rattle.walk_laws.specs.Settings.{Setting, route}
use Rattle.walk_laws.specs.Steps.{Alters, Reads, Seals, Sets, Shows, Step, Writes, WritesPi, steps_of}

-- The image under a map, and images that are clean.

-- the address of a virtual block, and its cell
abbrev pub address_of : Setting → ℕ → ℕ
address_of m v = (place_in m.entries v).1

abbrev pub home : Setting → ℕ → ℕ
home m v = m.site.cell (place_in m.entries v).0 (address_of m v)

-- what the map has of a stored block
abbrev pub held : Setting → List ℕ → MapEntry
held m frame =
    if is_zero m.ty then record { body = data_of m.size frame; app = 0; own = 0 }
    else record { body = data_of m.size frame; app = (tuple_of m.size frame).app; own = own_in m.ty (tuple_of m.size frame).rtag }

-- the map of n blocks from v on, as the image holds them
abbrev pub map_from : Setting → (v n : ℕ) → List (List ℕ) → List MapEntry
map_from m v zero image = []
map_from m v (suc n) image = held m (get_or image (home m v) []) ∷ map_from m (suc v) n image

-- with what a script begins: its pages, and what the image holds at each place
abbrev pub opened : Setting → State → Plain
opened m opening = record { bytes = opening.bytes; map = map_from m 0 (volume_len m.entries) opening.blocks }

-- the stored block of an entry: its data, under the tuple of its guard, its application tag and its address
abbrev pub stored_as : Setting → (lba : ℕ) → MapEntry → List ℕ
stored_as m lba e =
    if is_zero m.ty then e.body
    else frame_of e.body (record { guard = crc e.body; app = e.app; rtag = tag_of m.ty lba e.own })

-- the image that has at each place its entry of the map, from block v on; every other block is the image's
abbrev pub under : Setting → (v : ℕ) → List MapEntry → List (List ℕ) → List (List ℕ)
under m v [] image = image
under m v (e ∷ map) image = set (under m (suc v) map image) (home m v) (stored_as m (address_of m v) e)

-- The pages are the plain ones, and the stored blocks those under the map.
pub record IsUnder (m : Setting) (s : Plain) (image : List (List ℕ)) (now : State) : Type 0 where
  pub bytes : now.bytes ≡ s.bytes
  pub blocks : now.blocks ≡ under m 0 s.map image

-- A stored block is clean: no escape, with the guard of its data, the expected application tag, and in types 1 and 2 the tag of its address.
pub record IsClean (m : Setting) (lba : ℕ) (frame : List ℕ) : Type 0 where
  pub no_escape : is_escaped m.ty (tuple_of m.size frame) ≡ false
  pub guard : (tuple_of m.size frame).guard ≡ crc (data_of m.size frame)
  pub app : as_expected m (tuple_of m.size frame).app ≡ true
  pub rtag : has_ref_tag m.ty ≡ true → (tuple_of m.size frame).rtag ≡ ref_tag lba

-- So is each block of the volume, where its devices have tuples.
abbrev pub AreClean : Setting → List (List ℕ) → Type 0
AreClean m image = (v : ℕ) → v < volume_len m.entries → is_zero m.ty ≡ false → IsClean m (address_of m v) (get_or image (home m v) [])

-- The tuple that a step supplies, if it writes one, is no escape.
abbrev pub SuppliesNoEscape : Setting → Step → State → Type 0
SuppliesNoEscape m (Sets at values) s = Unit {0}
SuppliesNoEscape m (Shows at) s = Unit {0}
SuppliesNoEscape m (Seals body tuple app rtag) s = Unit {0}
SuppliesNoEscape m (Writes b app body) s = m.mode.dix ≡ true → is_escaped (host_type m.ty) (own_tuple (route m b) app (gather 0 body s.bytes)) ≡ false
SuppliesNoEscape m (WritesPi b frame) s = is_escaped (host_type m.ty) (tuple_of m.size (gather 0 frame s.bytes)) ≡ false
SuppliesNoEscape m (Reads b owner to) s = Unit {0}
SuppliesNoEscape m (Alters dev lba change) s = Unit {0}

abbrev pub NoneEscapes : Setting → List Step → State → Type 0
NoneEscapes m [] s = Unit {0}
NoneEscapes m (step ∷ steps) s = SuppliesNoEscape m step s × NoneEscapes m steps (act (act_of m step) s)

-- No write of the walk, from op i on, supplies an escape.
abbrev pub NoEscape : Setting → (i : ℕ) → List Op → State → Type 0
NoEscape m i [] s = Unit {0}
NoEscape m i (op ∷ ops) s = NoneEscapes m (steps_of m i op) s × NoEscape m (suc i) ops (plain act (acts_of m i op) s)
