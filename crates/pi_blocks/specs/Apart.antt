use Rattle.std.specs.Prelude.{◌≡◌, ℕ, ◌*◌, ◌/◌, ◌%◌, true, false}
use Rattle.pi_blocks.specs.declared.layout.Layout.{Layout}
use Rattle.pi_blocks.specs.declared.layout.Refusal.{Refusal}
use Rattle.pi_blocks.specs.declared.layout.Refusal.TheVariants.{BadLayout, BadLength}
use Rattle.pi_blocks.specs.Layouts.{is_good}

-- so many bytes of metadata are those of whole blocks, and so many bytes are their data
pub record AreApart (l : Layout) (body meta : ℕ) : Type 0 where
  pub good : is_good l ≡ true
  pub even : meta % l.meta_size ≡ 0
  pub same : body ≡ meta / l.meta_size * l.data_size

-- why they are none: each refusal by its cause, the layout's first
abbrev pub RefusedApart : Layout → ℕ → ℕ → Refusal → Type 0
RefusedApart l body meta BadLayout = is_good l ≡ false
RefusedApart l body meta BadLength = (is_good l ≡ true) × ¬ ((meta % l.meta_size ≡ 0) × (body ≡ meta / l.meta_size * l.data_size))
