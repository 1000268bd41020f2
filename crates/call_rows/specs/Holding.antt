use Rattle.std.specs.Prelude.{ℕ, ◌≡◌, List, length, take}
use Rattle.std.proofs.Common.{ap, ◌∙◌}
use Rattle.std.proofs.lemmas.List.{length-take, take_min}
use Rattle.dix_base.specs.Forms.{Intake}

-- a sink that holds what it takes: what it took, and how many bytes of that it passed on
pub record Holding : Type 0 where
  pub intake : Intake
  pub passed : ℕ

-- The front of a list is its front.
pub front-behind : (n : ℕ) (xs : List ℕ) → take (length (take n xs)) xs ≡ take n xs
front-behind n xs = ap (λ k. take k xs) (length-take n xs) ∙ take_min n xs
