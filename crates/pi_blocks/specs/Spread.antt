-- Blocks that lie over parts: a block may begin in one and end in another.
use Rattle.std.specs.Prelude.{◌≡◌, ℕ, ◌^◌, ◌%◌, ◌<◌, true, false}
use Rattle.pi_blocks.specs.Layouts.{is_good, stride_of}
use Rattle.pi_blocks.specs.declared.layout.Layout.{Layout}
use Rattle.pi_blocks.specs.declared.layout.Refusal.{Refusal}
use Rattle.pi_blocks.specs.declared.layout.Refusal.TheVariants.{BadLayout, BadLength}

-- the layout is good, and the parts' bytes, of which there are so many, are whole blocks of it, and no more than an address space has
pub record AreSpread (l : Layout) (len : ℕ) : Type 0 where
  pub good : is_good l ≡ true
  pub even : len % stride_of l ≡ 0
  pub few : len < 2 ^ 64

-- why they are none: each refusal by its cause, the layout's first
abbrev pub NotSpread : Layout → ℕ → Refusal → Type 0
NotSpread l len BadLayout = is_good l ≡ false
NotSpread l len BadLength = (is_good l ≡ true) × ¬ ((len % stride_of l ≡ 0) × (len < 2 ^ 64))
