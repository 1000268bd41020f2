-- What is seen of a list that loses elements at its front.
use Rattle.std.specs.Prelude.{ℕ, List}

-- the places of the ops that have not ended
pub record Listed : Type 0 where
  pub items : List ℕ
