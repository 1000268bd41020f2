use Rattle.std.specs.Prelude.{ℕ, List, ◌++◌, drop, bit_xor}
use lib.Lanes.{zip2, chunk}
use Rattle.pi_guard.specs.declared.narrow.Bytes64.{Bytes64}
use Rattle.pi_guard.specs.declared.wide.Bytes128.{Bytes128}
use Rattle.pi_guard.specs.Register.{register}
use Rattle.pi_guard.specs.AfterZeros.{later}

-- What the last bytes of a quotient still owe, where each byte is owed at three later places, so that i, j and k of these bytes are owed in full.
abbrev pub owed_at : ℕ → ℕ → ℕ → List ℕ → ℕ
owed_at i j k w = bit_xor (later i (register 0 (drop i w))) (bit_xor (later j (register 0 (drop j w))) (later k (register 0 (drop k w))))

-- of 64 bytes: x ^ 504 is x ^ 216 + x ^ 56 + 1 on division by the polynomial, so each byte is owed 36, 56 and 63 places on
abbrev pub owed_by : List ℕ → ℕ
owed_by w = owed_at 28 8 1 w

-- of 128 bytes: x ^ 1008 is x ^ 432 + x ^ 112 + 1, the square of that, so each byte is owed 72, 112 and 126 places on
abbrev pub wide_owed_by : List ℕ → ℕ
wide_owed_by w = owed_at 56 16 2 w

-- the register after 64 bytes of zeros, and after 128
unfoldable pub after_64 : ℕ → ℕ
after_64 r = later 64 r

unfoldable pub after_128 : ℕ → ℕ
after_128 r = later 128 r

unfoldable pub owed : Bytes64 → ℕ
owed t = owed_by (t.a ++ (t.b ++ (t.c ++ t.d)))

unfoldable pub wide_owed : Bytes128 → ℕ
wide_owed t = wide_owed_by (t.a ++ (t.b ++ (t.c ++ (t.d ++ (t.e ++ (t.f ++ (t.g ++ t.h)))))))

-- what the first 16 bytes after a trail of 64 bytes that begins with these are owed
abbrev pub owed_next : List ℕ → List ℕ → List ℕ → List ℕ
owed_next a b c = zip2 bit_xor (chunk 12 16 (b ++ c)) (zip2 bit_xor (chunk 8 16 (a ++ b)) (chunk 1 16 (a ++ b)))

-- and after a trail of 128 bytes with these first, second, fourth and fifth words
abbrev pub wide_owed_next : List ℕ → List ℕ → List ℕ → List ℕ → List ℕ
wide_owed_next a b d e = zip2 bit_xor (chunk 8 16 (d ++ e)) (zip2 bit_xor b (chunk 2 16 (a ++ b)))
