-- The data of blocks, copied to where they lie one block's behind another's.
use Rattle.std.specs.Prelude.{◌≡◌, ℕ, zero, suc, ◌+◌, ◌-◌, ◌*◌, ◌/◌, ◌%◌, ◌^◌, ◌≤◌, min, Bool, true, false, if◌then◌else◌, List, [], ◌∷◌, take, drop, Option, Some, None}
use Rattle.pi_blocks.specs.Blocks.{in_line, looked}
use Rattle.pi_blocks.specs.Inserted.{AreMoved, data_in, place_of_block, place_of_data}
use Rattle.pi_blocks.specs.Layouts.{is_good, stride_of}
use Rattle.pi_blocks.specs.Puts.{all_put}
use Rattle.pi_blocks.specs.declared.block.Found.{Found}
use Rattle.pi_blocks.specs.declared.block.Want.{Want}
use Rattle.pi_blocks.specs.declared.layout.Layout.{Layout}
use Rattle.pi_blocks.specs.declared.layout.Refusal.{Refusal}
use Rattle.pi_blocks.specs.declared.layout.Refusal.TheVariants.{BadLayout, BadLength}

-- the data that block i holds
abbrev pub held : Layout → List ℕ → ℕ → List ℕ
held l blocks i = take l.data_size (drop (place_of_block l i) blocks)

-- the data of the first n blocks in their places; what lies behind them stays
abbrev pub stripped : Layout → ℕ → List ℕ → List ℕ → List ℕ
stripped l n blocks old = all_put (place_of_data l) (held l blocks) n old

-- the blocks before the one that is told, or all n
abbrev pub before : ℕ → Option Found → ℕ
before n None = n
before n (Some told) = told.block

-- a difference is told
abbrev pub is_told : Option Found → Bool
is_told None = false
is_told (Some told) = true

-- the first of what was told and what is told now
abbrev pub first_told : Option Found → Option Found → Option Found
first_told None now = now
first_told (Some told) now = Some told

-- block i differs
abbrev pub is_bad : Layout → Want → List ℕ → ℕ → Bool
is_bad l w blocks i = is_told (looked l w (in_line l blocks) i)

-- what is left in the place of block i's data: these, or of a block that differs what was there before
abbrev pub left_there : Layout → Want → List ℕ → List ℕ → ℕ → List ℕ
left_there l w blocks old i = if is_bad l w blocks i then data_in l old i else held l blocks i

-- the data of those of the first n blocks that don't differ in their places; what lies in the other places stays
abbrev pub all_stripped : Layout → Want → ℕ → List ℕ → List ℕ → List ℕ
all_stripped l w n blocks old = all_put (place_of_data l) (left_there l w blocks old) n old

-- the same, and what lies behind them is as it was
pub record AreStripped (l : Layout) (w : Want) (n : ℕ) (blocks old now : List ℕ) : Type 0 where
  pub put : now ≡ all_stripped l w n blocks old
  pub rest : drop (place_of_data l n) now ≡ drop (place_of_data l n) old

-- the number whose bits are these, from the lowest on
abbrev pub bits_of : (ℕ → Bool) → ℕ → ℕ
bits_of is_set zero = 0
bits_of is_set (suc n) = bits_of is_set n + (if is_set n then 2 ^ n else 0)

-- how many bytes have a bit for each of n blocks
abbrev pub bytes_for : ℕ → ℕ
bytes_for n = (n + 7) / 8

-- the bits of n blocks from this one on: 1 where its block differs, from the lowest on
abbrev pub marks : Layout → Want → List ℕ → (start n : ℕ) → ℕ
marks l w blocks start n = bits_of (λ j. is_bad l w blocks (start + j)) n

-- byte k of the bitmap of n blocks
abbrev pub bad_byte : Layout → Want → List ℕ → ℕ → ℕ → List ℕ
bad_byte l w blocks n k = marks l w blocks (8 * k) (min (n - 8 * k) 8) ∷ []

-- the bitmap of n blocks in front of what was there before
abbrev pub all_marked : Layout → Want → ℕ → List ℕ → List ℕ → List ℕ
all_marked l w n blocks old = all_put (λ k. k) (bad_byte l w blocks n) (bytes_for n) old

-- so many bytes are whole blocks, others their data, and others have room for a bit for each
pub record AreMarked (l : Layout) (body blocks marked : ℕ) : Type 0 where
  pub moved : AreMoved l body blocks
  pub room : bytes_for (blocks / stride_of l) ≤ marked

-- why they aren't: each refusal by its cause, the layout's first
abbrev pub NotMarked : Layout → ℕ → ℕ → ℕ → Refusal → Type 0
NotMarked l body blocks marked BadLayout = is_good l ≡ false
NotMarked l body blocks marked BadLength = (is_good l ≡ true) × ¬ ((blocks % stride_of l ≡ 0) × (body ≡ blocks / stride_of l * l.data_size) × (bytes_for (blocks / stride_of l) ≤ marked))
