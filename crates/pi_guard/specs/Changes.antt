use Rattle.std.specs.Prelude.{ℕ, ◌≡◌, ◌≢◌, ◌<◌, List, All, length}

-- Two messages of equally many bytes that are not the same.
pub record IsChange (a b : List ℕ) : Type 0 where
  pub bytes : All (λ x. x < 256) a
  pub other_bytes : All (λ x. x < 256) b
  pub as_long : length a ≡ length b
  pub differ : a ≢ b
