use Rattle.std.specs.Prelude.{ℕ, zero, suc, ◌+◌, List, ◌++◌, take, drop, length}

-- the bytes with these in the place of those that begin at a place
abbrev pub put_at : ℕ → List ℕ → List ℕ → List ℕ
put_at at piece bytes = take at bytes ++ (piece ++ drop (at + length piece) bytes)

-- the bytes with n pieces put at their places
unfoldable pub all_put : (ℕ → ℕ) → (ℕ → List ℕ) → ℕ → List ℕ → List ℕ
all_put place piece zero bytes = bytes
all_put place piece (suc n) bytes = put_at (place n) (piece n) (all_put place piece n bytes)
