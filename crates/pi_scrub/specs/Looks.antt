use Rattle.std.specs.Prelude.{ℕ, zero, suc, ◌≡◌, ◌+◌, ◌^◌, ◌≤◌, min, leb, ltb, if◌then◌else◌, List, [], ◌∷◌, ◌++◌, map, slice_index_or}
use Rattle.pi_tuple.specs.declared.checks.PiType.{PiType}
use Rattle.pi_tuple.specs.declared.checks.PiType.TheVariants.{Zero, One, Two, Three}
use Rattle.cdb_codec.specs.Forms.{form}
use Rattle.cdb_codec.specs.Rule.{untagged}
use Rattle.cdb_codec.specs.declared.command.Cdb.{Cdb}
use Rattle.cdb_codec.specs.declared.command.Cdb.TheVariants.{Verify10, Verify16}
use Rattle.rig_api.specs.Log.{LogEntry}
use Rattle.rig_api.specs.declared.rig.Outcome.{Outcome}
use Rattle.volume_table.specs.declared.device.DeviceInfo.{DeviceInfo}
use Rattle.block_path.specs.Senses.{why_ended}
use Rattle.pi_scrub.specs.declared.found.Found.{Found}

-- The commands by which a scrub looks at blocks.

abbrev pub protect_for : PiType → ℕ
protect_for Zero = 0
protect_for One = 1
protect_for Two = 0
protect_for Three = 1

-- VERIFY of n blocks: in 10 bytes where the last address fits 32 bits, else in 16
abbrev pub verify_of : PiType → (lba n : ℕ) → Cdb
verify_of ty lba n = if leb (lba + n) (2 ^ 32) then Verify10 (untagged lba n (protect_for ty)) else Verify16 (untagged lba n (protect_for ty))

-- the blocks that a command of n blocks settles: those that are done, and the one where it ended
abbrev pub settled : (n done : ℕ) → ℕ
settled n done = if ltb done n then done + 1 else n

-- a VERIFY that was sent, and how it ended
pub record Look : Type 0 where
  pub dev : ℕ
  pub ty : PiType
  pub lba : ℕ
  pub n : ℕ
  pub outcome : Outcome

-- its record, which has no labels and no moved bytes
abbrev pub entry_of : Look → LogEntry
entry_of l = record { what = record { dev = l.dev; cdb = form (verify_of l.ty l.lba l.n); outcome = l.outcome }; labels = []; moved = [] }

-- the block at which it ended, where it did before its last one: with what its sense says of it
abbrev pub found_at : (dev lba n : ℕ) → Outcome → List Found
found_at dev lba n o = if ltb o.done n then record { dev = dev; lba = lba + o.done; why = why_ended o.sense } ∷ [] else []

abbrev pub found_by : Look → List Found
found_by l = found_at l.dev l.lba l.n l.outcome

-- a block of a device
pub record LookedPlace : Type 0 where
  pub dev : ℕ
  pub lba : ℕ

-- so many blocks from this address on
abbrev pub places : (dev lba : ℕ) → ℕ → List LookedPlace
places dev lba zero = []
places dev lba (suc n) = record { dev = dev; lba = lba } ∷ places dev (lba + 1) n

abbrev pub place_of : Found → LookedPlace
place_of f = record { dev = f.dev; lba = f.lba }

-- the blocks that it looked at: those that are done, and the one where it ended
abbrev pub looked_at : Look → List LookedPlace
looked_at l = places l.dev l.lba (min l.outcome.done l.n) ++ map place_of (found_by l)

abbrev pub all_entries : List Look → List LogEntry
all_entries [] = []
all_entries (l ∷ ls) = entry_of l ∷ all_entries ls

abbrev pub all_found : List Look → List Found
all_found [] = []
all_found (l ∷ ls) = found_by l ++ all_found ls

abbrev pub all_looked : List Look → List LookedPlace
all_looked [] = []
all_looked (l ∷ ls) = looked_at l ++ all_looked ls

-- every block of the devices from this number on, by device and address
abbrev pub all_places : ℕ → List DeviceInfo → List LookedPlace
all_places dev [] = []
all_places dev (d ∷ ds) = places dev d.first d.blocks ++ all_places (dev + 1) ds

abbrev pub no_device : DeviceInfo
no_device = record { ty = Zero; blocks = 0; size = 0; first = 0 }

abbrev pub info_at : List DeviceInfo → ℕ → DeviceInfo
info_at devices dev = slice_index_or devices dev no_device

-- Each looks at 1 to 1,024 blocks, with the type of its device.
abbrev pub AreFit : List DeviceInfo → List Look → Type 0
AreFit devices [] = Unit {0}
AreFit devices (l ∷ ls) = (1 ≤ l.n) × (l.n ≤ 1024) × (l.ty ≡ (info_at devices l.dev).ty) × AreFit devices ls
