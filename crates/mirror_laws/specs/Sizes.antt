use Rattle.std.specs.Prelude.{ℕ, ◌≡◌, ◌+◌, ◌*◌, ◌<◌, ◌≤◌, List, [], ◌∷◌, length, get_or}
use Rattle.page_pool.specs.Places.{total}
use Rattle.stack_ops.specs.declared.op.Op.{Op}
use Rattle.stack_ops.specs.declared.op.Op.TheVariants.{Fetch, FetchPi, Fill, Overwrite, Put, Seal, Show, Wait, Write, WritePi}
use Rattle.rig_api.specs.Frames.{stored_size}
use Rattle.volume_table.specs.Places.{volume_len}
use Rattle.block_path.specs.Routes.{target}
use Rattle.walk_laws.specs.ScriptWalk.{source_of}
use Rattle.walk_laws.specs.Settings.{Setting}
use Rattle.walk_laws.specs.UnderMap.{home}

-- The sizes of what is stored, on a mirror over a target.

-- Behind the adapter is a target with the same faults armed, the protect field isn't 0, and each block of the volume is stored in a frame of its size.
pub record HasSizes (m : Setting) (opening : List (List ℕ)) : Type 0 where
  pub device : m.site.device ≡ target m.site.faults
  pub protect : 0 < m.mode.protect
  pub stored : (v : ℕ) → v < volume_len m.entries → length (get_or opening (home m v) []) ≡ stored_size m.ty m.size

-- Each stored block is as long as it was.
abbrev pub KeepsSizes : (opening blocks : List (List ℕ)) → Type 0
KeepsSizes opening blocks = (c : ℕ) → length (get_or blocks c []) ≡ length (get_or opening c [])

-- A write lies on the mirror, with its data, and an overwrite puts a block in the place of one as long.
abbrev pub HasPlace : Setting → (half : ℕ) → (opening : List (List ℕ)) → Op → Type 0
HasPlace m half opening (Fill seg byte) = Unit {0}
HasPlace m half opening (Put page off values) = Unit {0}
HasPlace m half opening (Show seg) = Unit {0}
HasPlace m half opening (Seal n body tuples app rtag) = Unit {0}
HasPlace m half opening (Write v n body app) = (v + n ≤ half) × (total body ≡ n * m.size)
HasPlace m half opening (Fetch v n body) = Unit {0}
HasPlace m half opening (WritePi v n body tuples) = Unit {0}
HasPlace m half opening (FetchPi v n body tuples) = Unit {0}
HasPlace m half opening (Overwrite dev lba change) = length (get_or opening (source_of m.site dev lba change) []) ≡ length (get_or opening (m.site.cell dev lba) [])
HasPlace m half opening Wait = Unit {0}

abbrev pub AllHavePlaces : Setting → (half : ℕ) → (opening : List (List ℕ)) → List Op → Type 0
AllHavePlaces m half opening [] = Unit {0}
AllHavePlaces m half opening (op ∷ ops) = HasPlace m half opening op × AllHavePlaces m half opening ops
