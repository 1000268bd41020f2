use Rattle.std.specs.Prelude.{◌≡◌, ℕ, ◌+◌, ◌^◌, ◌%◌, Bool, true, false, ◌&&◌, ◌||◌, eqb, leb, ltb, if◌then◌else◌}
use Rattle.pi_guard.specs.declared.GuardKind.{GuardKind}
use Rattle.pi_guard.specs.declared.GuardKind.TheVariants.{Crc, Ip}
use Rattle.pi_tuple.specs.declared.checks.PiType.{PiType}
use Rattle.pi_tuple.specs.declared.checks.PiType.TheVariants.{Zero, One, Two, Three}
use Rattle.pi_blocks.specs.declared.layout.Layout.{Layout}
use Rattle.pi_blocks.specs.declared.layout.Refusal.{Refusal}
use Rattle.pi_blocks.specs.declared.layout.Refusal.TheVariants.{BadLayout, BadLength}
use Rattle.pi_blocks.specs.declared.layout.Unchecked.{Unchecked}
use Rattle.pi_blocks.specs.declared.layout.Unchecked.TheVariants.{Blocks, Flags}
use Rattle.pi_tuple.specs.declared.TheConstants.{TUPLE}

-- the type and the guard of these numbers
abbrev pub type_of : ℕ → PiType
type_of n = if eqb n 1 then One else (if eqb n 2 then Two else (if eqb n 3 then Three else Zero))

abbrev pub kind_of : ℕ → GuardKind
kind_of n = if eqb n 0 then Crc else Ip

-- the bytes of a block with its metadata behind its data, and those of them before the tuple
abbrev pub stride_of : Layout → ℕ
stride_of l = l.data_size + l.meta_size

abbrev pub covered_of : Layout → ℕ
covered_of l = l.data_size + l.tuple_at

-- a tuple fits its metadata, a block's size fits 32 bits, and type and guard are some
abbrev pub is_good : Layout → Bool
is_good l = leb (l.tuple_at + TUPLE) l.meta_size && (ltb (stride_of l) (2 ^ 32) && (leb 1 l.pi_type && (leb l.pi_type 3 && leb l.guard 1)))

-- the layout is good, and so many bytes are whole blocks of it
pub record AreBlocks (l : Layout) (len : ℕ) : Type 0 where
  pub good : is_good l ≡ true
  pub even : len % stride_of l ≡ 0

-- why so many bytes are none: each refusal by its cause, the layout's first
abbrev pub Refused : Layout → ℕ → Refusal → Type 0
Refused l len BadLayout = is_good l ≡ false
Refused l len BadLength = (is_good l ≡ true) × ¬ (len % stride_of l ≡ 0)

-- flags that say what is checked: 2 the guard, 4 the application tag, 8 the reference tag, one of them at least and no other; or 1 alone, nothing
abbrev pub are_flags : ℕ → Bool
are_flags n = eqb n 1 || (leb 2 n && (ltb n 16 && eqb (n % 2) 0))

-- why they aren't checked by these flags: they are no blocks, for this cause; or they are, and the flags are none
abbrev pub NotChecked : (Are : Type 0) → (None : Refusal → Type 0) → (flags : ℕ) → Unchecked → Type 0
NotChecked Are None flags (Blocks why) = None why
NotChecked Are None flags Flags = Are × (are_flags flags ≡ false)

-- a number is that of a protection type
abbrev pub is_type : ℕ → Bool
is_type n = leb 1 n && leb n 3

-- the layout of a tuple by itself
abbrev pub of_type : ℕ → Layout
of_type n = record { data_size = 0; meta_size = 8; tuple_at = 0; pi_type = n; guard = 0 }
