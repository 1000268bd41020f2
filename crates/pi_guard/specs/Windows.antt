use Rattle.std.specs.Prelude.{ℕ, ◌/◌, List, ◌++◌, bit_xor, bit_and, slice_index}
use Rattle.pi_guard.specs.declared.narrow.Bytes64.{Bytes64}
use Rattle.pi_guard.specs.declared.wide.Bytes128.{Bytes128}
use Rattle.pi_guard.specs.Register.{register}

-- what the two halves of a byte give by two tables
abbrev pub by_halves : List ℕ → List ℕ → ℕ → ℕ
by_halves high low x = bit_xor (slice_index high (x / 16)) (slice_index low (bit_and x 15))

-- the register after the bytes of the window
unfoldable pub window_register : Bytes64 → ℕ
window_register s = register 0 (s.a ++ (s.b ++ (s.c ++ s.d)))

unfoldable pub wide_register : Bytes128 → ℕ
wide_register s = register 0 (s.a ++ (s.b ++ (s.c ++ (s.d ++ (s.e ++ (s.f ++ (s.g ++ s.h)))))))
