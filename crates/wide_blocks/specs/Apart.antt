use Rattle.std.specs.Prelude.{◌≡◌, ℕ, ◌*◌, ◌/◌, ◌%◌, true, false}
use Rattle.wide_blocks.specs.declared.layout.NvmeLayout.{NvmeLayout}
use Rattle.wide_blocks.specs.declared.layout.NvmeRefusal.{NvmeRefusal}
use Rattle.wide_blocks.specs.declared.layout.NvmeRefusal.TheVariants.{Field, Layout, Length}
use Rattle.wide_blocks.specs.Layouts.{is_good}

-- so many bytes are whole pieces of this size, and as many pieces of data as there are of these
pub record AreWideApart (l : NvmeLayout) (size body all : ℕ) : Type 0 where
  pub good : is_good l ≡ true
  pub even : all % size ≡ 0
  pub same : body ≡ all / size * l.data_size

-- why they are none: each refusal by its cause, the layout's first
abbrev pub RefusedApart : NvmeLayout → (size body all : ℕ) → NvmeRefusal → Type 0
RefusedApart l size body all Layout = is_good l ≡ false
RefusedApart l size body all Length = (is_good l ≡ true) × ¬ ((all % size ≡ 0) × (body ≡ all / size * l.data_size))
RefusedApart l size body all Field = ⊥
