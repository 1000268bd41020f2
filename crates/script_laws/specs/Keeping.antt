use Rattle.std.specs.Prelude.{ℕ, ℤ, pos, negsuc, suc, ◌≡◌, ◌⊎◌, ◌+◌, ◌^◌, ◌<◌, ◌≤◌, ◌&&◌, Bool, true, false, not, eqb, List, [], ◌∷◌, length, Option, Some, None, Ok}
use Rattle.std.specs.List.{list_any}
use Rattle.hex.specs.Hex.{IsBytes}
use Rattle.script_text.specs.Passed.{Mode, Op, MOST_BLOCKS}
use Rattle.fault_schedule.specs.declared.fault.FaultKind.{FaultKind}
use Rattle.fault_schedule.specs.declared.fault.FaultKind.TheVariants.{Flip as FlipKind, Shift as ShiftKind, Keep as KeepKind, Fail as FailKind}
use Rattle.fault_schedule.specs.declared.fault.FaultLine.{FaultLine}
use Rattle.script_lines.specs.Passed.{Limits}
use Rattle.stripe_volume.specs.declared.legs.Leg.{Leg}
use Rattle.volume_table.specs.declared.entry.Entry.{Entry}
use Rattle.volume_table.specs.declared.entry.Entry.TheVariants.{Linear, Stripe}
use Rattle.script_lines.specs.declared.line.OpLine.{OpLine}
use Rattle.script_lines.specs.declared.line.OpLine.TheVariants.{Fill, Put, Show, Seal, Write, Read, WritePi, ReadPi, Flip, Copy, Wait}
use Rattle.script_lines.specs.declared.line.Spot.{Spot}
use Rattle.script_lines.specs.declared.line.Spot.TheVariants.{Host, Wire, Medium}
use Rattle.script_text.specs.declared.script.Script.{Script}
use Rattle.script_text.specs.Bindings.{is_third_line}
use Rattle.script_text.specs.Crossings.{crossing_in, crossing_of, is_read, spot_of}
use Rattle.script_text.specs.Ops.{op_in}
use Rattle.script_text.specs.Rules.{is_bad_flip, needs_tuples, request_blocks}
use Rattle.script_laws.specs.Lines.{line_of}
use Rattle.volume_table.specs.declared.TheConstants.{MOST_LENGTH}
use Rattle.script_lines.specs.declared.TheConstants.{MOST_CHUNK}
use Rattle.script_text.specs.declared.TheConstants.{MOST_ENTRIES, MOST_FAULTS, MOST_SCHEDULE, MOST_OPS}

-- What each script of the language keeps: the counts, the ranges, the crossings and the rules of its lines.

abbrev pub Each : {A : Type 0} → (A → Type 0) → List A → Type 0
Each P [] = Unit {0}
Each P (x ∷ xs) = P x × Each P xs

pub record IsWithin (low high n : ℕ) : Type 0 where
  pub low_is : low ≤ n
  pub high_is : n ≤ high

-- 1, 3 or 4
pub record IsProtect (n : ℕ) : Type 0 where
  pub range : IsWithin 1 4 n
  pub taken_is : eqb n 2 ≡ false

-- An expected tag is asked for where its mask isn't 0; then tuples travel all the way.
pub record IsMode (m : Mode) : Type 0 where
  pub protect_is : IsProtect m.protect
  pub app_fits : m.app < 2 ^ 16
  pub mask_fits : m.mask < 2 ^ 16
  pub unmasked : m.mask ≡ 0 → m.app ≡ 0
  pub expects_dix : eqb m.mask 0 ≡ false → m.dix ≡ true
  pub expects_dif : eqb m.mask 0 ≡ false → m.dif ≡ true

pub record AreLimits (l : Limits) : Type 0 where
  pub blocks : IsWithin 1 1024 l.max_blocks
  pub segs : IsWithin 4 1024 l.max_segs
  pub pi_segs : IsWithin 1 1024 l.max_pi_segs

pub record IsLeg (l : Leg) : Type 0 where
  pub dev_fits : l.dev < 2 ^ 32
  pub at_fits : l.at < 2 ^ 64

pub record AreLegs (legs : List Leg) : Type 0 where
  pub each : Each IsLeg legs
  pub count : IsWithin 1 8 (length legs)

abbrev pub IsEntry : Entry → Type 0
IsEntry (Linear e) = (e.start < 2 ^ 64) × IsWithin 1 MOST_LENGTH e.len × (e.dev < 2 ^ 32) × (e.at < 2 ^ 64)
IsEntry (Stripe s) = (s.start < 2 ^ 64) × IsWithin 1 MOST_LENGTH s.len × IsWithin 1 MOST_CHUNK s.chunk × AreLegs s.legs

-- bytes of a frame of blocks of this size that are altered
pub record IsFlip (size off : ℕ) (bytes : List ℕ) : Type 0 where
  pub off_fits : off ≤ size + 7
  pub are_bytes : IsBytes bytes
  pub count : length bytes ≤ 32
  pub good : is_bad_flip size off bytes ≡ false

abbrev pub IsShift : ℤ → Type 0
IsShift (pos n) = IsWithin 1 64 n
IsShift (negsuc n) = suc n ≤ 64

-- wire or medium
abbrev pub IsShiftSpot : Spot → Type 0
IsShiftSpot Host = ⊥
IsShiftSpot Wire = Unit {0}
IsShiftSpot Medium = Unit {0}

abbrev pub IsKind : (size : ℕ) → FaultLine → FaultKind → Type 0
IsKind size f (FlipKind off bytes) = IsFlip size off bytes
IsKind size f (ShiftKind by) = (f.k ≡ 0) × IsShiftSpot (spot_of f.at) × IsShift by
IsKind size f (KeepKind bytes) = (spot_of f.at ≡ Medium) × (bytes ≤ size + 7)
IsKind size f FailKind = spot_of f.at ≡ Medium

-- A fault's crossing is that of its place for its op, in a script of version 3 or of an earlier one.
pub record IsFault (third : Bool) (size : ℕ) (ops : List Op) (f : FaultLine) : Type 0 where
  pub op_is : IsWithin 1 1024 f.op
  pub k_is : f.k ≤ 2047
  pub crossing : crossing_in third f.kind (crossing_of (spot_of f.at) f.kind (is_read ops f.op)) ≡ f.at
  pub kind_is : IsKind size f f.kind

abbrev pub IsTag : Option ℕ → Type 0
IsTag None = Unit {0}
IsTag (Some app) = app < 2 ^ 16

abbrev pub InRange : (size : ℕ) → OpLine → Type 0
InRange size (Fill seg byte) = byte < 256
InRange size (Put page off bytes) = IsBytes bytes × (length bytes ≤ 512)
InRange size (Show seg) = Unit {0}
InRange size (Seal n body tuples app rtag) = (app < 2 ^ 16) × (rtag < 2 ^ 32)
InRange size (Write v n body app) = (v < 2 ^ 64) × IsTag app
InRange size (Read v n body) = v < 2 ^ 64
InRange size (WritePi v n body tuples) = v < 2 ^ 64
InRange size (ReadPi v n body tuples) = v < 2 ^ 64
InRange size (Flip dev lba off bytes) = (dev < 2 ^ 32) × (lba < 2 ^ 64) × IsFlip size off bytes
InRange size (Copy dev lba from_dev from_lba) = (dev < 2 ^ 32) × (lba < 2 ^ 64) × (from_dev < 2 ^ 32) × (from_lba < 2 ^ 64)
InRange size Wait = Unit {0}

-- An op keeps the rules of its line, and needs no tuples where none travel from the host.
pub record IsOp (dix : Bool) (pages size : ℕ) (op : Op) : Type 0 where
  pub rules : op_in pages size (line_of op) ≡ Ok op
  pub integrity : not dix && needs_tuples (line_of op) ≡ false
  pub ranges : InRange size (line_of op)

abbrev pub IsChoice : ℕ × ℕ → Type 0
IsChoice e = (e.0 < 2 ^ 32) × (e.1 < 2 ^ 32)

-- the blocks of all requests
abbrev pub blocks_of : List Op → ℕ
blocks_of [] = 0
blocks_of (op ∷ ops) = request_blocks (line_of op) + blocks_of ops

pub record Keeps (s : Script) : Type 0 where
  pub mode_is : IsMode s.mode
  pub limits_are : AreLimits s.limits
  pub pages_are : IsWithin 1 256 s.pages
  pub block_is : (s.block ≡ 512) ⊎ (s.block ≡ 4096)
  pub entries_are : Each IsEntry s.entries
  pub entries_count : IsWithin 1 MOST_ENTRIES (length s.entries)
  pub faults_are : Each (IsFault (list_any is_third_line s.faults) s.block s.ops) s.faults
  pub faults_count : length s.faults ≤ MOST_FAULTS
  pub choices_are : Each IsChoice s.schedule
  pub choices_count : length s.schedule ≤ MOST_SCHEDULE
  pub ops_are : Each (IsOp s.mode.dix s.pages s.block) s.ops
  pub ops_count : length s.ops ≤ MOST_OPS
  pub blocks_count : blocks_of s.ops ≤ MOST_BLOCKS
