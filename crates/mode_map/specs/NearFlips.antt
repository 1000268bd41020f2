use Rattle.std.specs.Prelude.{ℕ, ◌≢◌, ◌+◌, ◌<◌, ◌≤◌, List, [], ◌∷◌, length, slice_index}
use Rattle.std.specs.List.{All}
use Rattle.walk_laws.specs.Settings.{Setting}

-- One or two bytes of a block's data are xored, not both with FFh, and some with another byte than 0.
pub record IsNearFlip (m : Setting) (off : ℕ) (bytes : List ℕ) : Type 0 where
  pub inside : off + length bytes ≤ m.size
  pub below : All (λ x. x < 256) bytes
  pub few : length bytes ≤ 2
  pub not_all : bytes ≢ 255 ∷ 255 ∷ []
  pub place : ℕ
  pub some : slice_index bytes place ≢ 0
