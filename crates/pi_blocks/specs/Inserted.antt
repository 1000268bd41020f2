-- Blocks that are made of data that lie one block's behind another's: each takes its data, keeps its metadata, and gets its tuple.
use Rattle.std.specs.Prelude.{◌≡◌, ℕ, ◌*◌, ◌/◌, ◌%◌, true, false, List, ◌++◌, take, drop}
use Rattle.pi_blocks.specs.Blocks.{Block}
use Rattle.pi_blocks.specs.Layouts.{covered_of, is_good, stride_of}
use Rattle.pi_blocks.specs.Made.{made_bytes}
use Rattle.pi_blocks.specs.Puts.{all_put, put_at}
use Rattle.pi_blocks.specs.declared.layout.Layout.{Layout}
use Rattle.pi_blocks.specs.declared.layout.Refusal.{Refusal}
use Rattle.pi_blocks.specs.declared.layout.Refusal.TheVariants.{BadLayout, BadLength}

-- so many bytes are whole blocks of a good layout, and so many others are the data of as many blocks
pub record AreMoved (l : Layout) (body blocks : ℕ) : Type 0 where
  pub good : is_good l ≡ true
  pub even : blocks % stride_of l ≡ 0
  pub same : body ≡ blocks / stride_of l * l.data_size

-- why they aren't: each refusal by its cause, the layout's first
abbrev pub NotMoved : Layout → ℕ → ℕ → Refusal → Type 0
NotMoved l body blocks BadLayout = is_good l ≡ false
NotMoved l body blocks BadLength = (is_good l ≡ true) × ¬ ((blocks % stride_of l ≡ 0) × (body ≡ blocks / stride_of l * l.data_size))

-- where block i begins, and the data of block i
abbrev pub place_of_block : Layout → ℕ → ℕ
place_of_block l i = i * stride_of l

abbrev pub place_of_data : Layout → ℕ → ℕ
place_of_data l i = i * l.data_size

-- block i of bytes, and the data of block i where they lie one block's behind another's
abbrev pub block_in : Layout → List ℕ → ℕ → List ℕ
block_in l bytes i = take (stride_of l) (drop (place_of_block l i) bytes)

abbrev pub data_in : Layout → List ℕ → ℕ → List ℕ
data_in l bytes i = take l.data_size (drop (place_of_data l i) bytes)

-- a block by itself, as its check sees it
abbrev pub alone : Layout → List ℕ → Block
alone l block = record { guarded = take (covered_of l) block; tuple = take 8 (drop (covered_of l) block) }

-- a block with other data, whose metadata stay
abbrev pub with_data : Layout → List ℕ → List ℕ → List ℕ
with_data l body block = body ++ drop l.data_size block

-- a block with the tuple that is made for it as block i
abbrev pub with_tuple : Layout → ℕ → ℕ → ℕ → List ℕ → List ℕ
with_tuple l app first i block = put_at (covered_of l) (made_bytes l app first (λ k. alone l block) i) block

-- block i, made of these data and of the metadata that stand in its place
abbrev pub inserted_block : Layout → ℕ → ℕ → List ℕ → List ℕ → ℕ → List ℕ
inserted_block l app first body bytes i = with_tuple l app first i (with_data l (data_in l body i) (block_in l bytes i))

-- the bytes of n blocks that are so made
abbrev pub inserted : Layout → ℕ → ℕ → ℕ → List ℕ → List ℕ → List ℕ
inserted l app first n body bytes = all_put (place_of_block l) (inserted_block l app first body bytes) n bytes
