-- Calls after which the count of faults stood still, one after another.
use Rattle.std.proofs.Common.{ℕ, inl, arith, inr, ◌≤◌}
use Rattle.dix_base.specs.Told.{Calm, Rose}

-- where no fault was counted no store call failed
pub never_rose : (o n : ℕ) → Calm o n → Rose o n → ⊥
never_rose o n c (inl h) = omega arith
never_rose o n c (inr h) = omega arith

-- a count that rose later rose
pub rose_later : (a b c : ℕ) → a ≤ b → Rose b c → Rose a c
rose_later a b c h (inl r) = inl (omega (arith, h, r))
rose_later a b c h (inr r) = inr r

pub calm_first : (a b c : ℕ) → b ≤ c → Calm a c → Calm a b
calm_first a b c h p = (omega (arith, p.0), omega (arith, p.1))

pub calm_then : (a b c : ℕ) → a ≤ b → Calm a c → Calm b c
calm_then a b c h p = (omega (arith, p.0), p.1)
