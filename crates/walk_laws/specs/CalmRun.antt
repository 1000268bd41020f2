use Rattle.std.specs.Prelude.{ℕ, ◌≡◌, ◌+◌, ◌*◌, ◌<◌, ◌≤◌, ◌^◌, true, false, List, [], ◌∷◌, length, get_or}
use Rattle.std.specs.List.{All}
use Rattle.page_pool.specs.Places.{total}
use Rattle.stack_ops.specs.declared.op.Op.{Op}
use Rattle.stack_ops.specs.declared.op.Op.TheVariants.{Fetch, FetchPi, Fill, Overwrite, Put, Seal, Show, Wait, Write, WritePi}
use Rattle.block_path.specs.Passed.{stored_size}
use Rattle.volume_table.specs.Places.{volume_len}
use Rattle.block_path.specs.Acts.{State}
use Rattle.block_path.specs.Routes.{target}
use Rattle.walk_laws.specs.PlainMap.{all_pass}
use Rattle.walk_laws.specs.Settings.{Setting}
use Rattle.walk_laws.specs.UnderMap.{AreClean, NoEscape, home}
use Rattle.pi_tuple.specs.declared.TheConstants.{TUPLE}

-- What is asked of a run without faults.

-- No fault is armed and no store call fails, a target by the standard is behind the adapter, the protect field of commands with tuples isn't 0, and an application tag is expected only where tuples travel all the way.
pub record IsCalm (m : Setting) : Type 0 where
  pub faults : m.site.faults ≡ []
  pub device : m.site.device ≡ target []
  pub fails : (op : ℕ) → m.fails op ≡ false
  pub protect : 0 < m.mode.protect
  pub mask : all_pass m ≡ false → m.mode.mask ≡ 0

-- The volume lies in the image: each block has a stored block of its own, of the size that its type has, and made of bytes.
pub record LiesInImage (m : Setting) (n : ℕ) (image : List (List ℕ)) : Type 0 where
  pub within : (v : ℕ) → v < n → home m v < length image
  pub apart : (u v : ℕ) → u < n → v < n → home m u ≡ home m v → u ≡ v
  pub size : (v : ℕ) → v < n → length (get_or image (home m v) []) ≡ stored_size m.ty m.size
  pub bytes : (v : ℕ) → v < n → All (λ x. x < 256) (get_or image (home m v) [])

-- n blocks of the volume from v on, with so many bytes of data
pub record AreVolumeBlocks (m : Setting) (v n : ℕ) (bytes : ℕ) : Type 0 where
  pub within : v + n ≤ volume_len m.entries
  pub bytes_are : bytes ≡ n * m.size

-- What a reader of scripts has seen to. There is no `overwrite`.
abbrev pub Fits : Setting → Op → Type 0
Fits m (Fill seg byte) = byte < 256
Fits m (Put page off bytes) = All (λ x. x < 256) bytes
Fits m (Show seg) = Unit {0}
Fits m (Seal n body tuples app rtag) = Unit {0}
Fits m (Write v n body app) = AreVolumeBlocks m v n (total body) × (app < 2 ^ 16)
Fits m (Fetch v n body) = v + n ≤ volume_len m.entries
Fits m (WritePi v n body tuples) = AreVolumeBlocks m v n (total body) × ((total tuples ≡ n * TUPLE) × (m.mode.dix ≡ true))
Fits m (FetchPi v n body tuples) = v + n ≤ volume_len m.entries
Fits m (Overwrite dev lba change) = ⊥
Fits m Wait = Unit {0}

abbrev pub AllFit : Setting → List Op → Type 0
AllFit m [] = Unit {0}
AllFit m (op ∷ ops) = Fits m op × AllFit m ops

-- A run without faults, over a clean image and with no escape.
pub record IsCalmRun (m : Setting) (ops : List Op) (opening : State) : Type 0 where
  pub calm : IsCalm m
  pub pages : All (λ x. x < 256) opening.bytes
  pub lies : LiesInImage m (volume_len m.entries) opening.blocks
  pub clean : AreClean m opening.blocks
  pub fit : AllFit m ops
  pub no_escape : NoEscape m 1 ops opening
