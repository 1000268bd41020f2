use Rattle.std.specs.Prelude.{ℕ, zero, suc, ◌/◌, ◌%◌, cond, eqb, List, [], ◌∷◌, bit_xor}

-- 1EDC6F41h and AD93D23594C93659h with their coefficients the other way round
unfoldable pub castagnoli : ℕ
castagnoli = 0x82F63B78

unfoldable pub rocksoft : ℕ
rocksoft = 0x9A6C9329AC4BC9B5

-- one step of the division by such a polynomial, on a register whose lowest bit leads
abbrev pub step : ℕ → ℕ → ℕ
step p r = cond (eqb (r % 2) 1) (bit_xor (r / 2) p) (r / 2)

abbrev pub steps : ℕ → ℕ → ℕ → ℕ
steps p zero r = r
steps p (suc n) r = steps p n (step p r)

-- the register after a byte of zeros
unfoldable pub pass : ℕ → ℕ → ℕ
pass p r = steps p 8 r

-- the register after so many bytes of zeros
abbrev pub later : ℕ → ℕ → ℕ → ℕ
later p zero r = r
later p (suc k) r = later p k (pass p r)

unfoldable pub after_8 : ℕ → ℕ → ℕ
after_8 p r = later p 8 r

unfoldable pub after_16 : ℕ → ℕ → ℕ
after_16 p r = later p 16 r

-- what this byte leaves after k bytes of zeros
unfoldable pub entry : ℕ → ℕ → ℕ → ℕ
entry p k x = later p k (pass p x)

-- the register after one more byte
unfoldable pub byte_step : ℕ → ℕ → ℕ → ℕ
byte_step p r x = pass p (bit_xor r (x % 256))

-- the register after these bytes
abbrev pub register : ℕ → ℕ → List ℕ → ℕ
register p r [] = r
register p r (x ∷ xs) = register p (byte_step p r x) xs
