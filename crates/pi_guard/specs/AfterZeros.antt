use Rattle.std.specs.Prelude.{ℕ, zero, suc, ◌*◌, ◌^◌}
use Rattle.pi_guard.specs.Register.{steps}

-- the register after a byte of zeros
unfoldable pub pass : ℕ → ℕ
pass r = steps 8 r

-- the register after so many bytes of zeros
abbrev pub later : ℕ → ℕ → ℕ
later zero r = r
later (suc k) r = later k (pass r)

-- what this byte leaves after k bytes of zeros
unfoldable pub entry : ℕ → ℕ → ℕ
entry k x = later k (pass (x * 2 ^ 8))
