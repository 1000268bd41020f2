use Rattle.std.specs.Prelude.{◌≡◌, ℕ, ◌+◌, List, ◌++◌, length, map, drop, bit_xor}
use lib.Lanes.{zip2, chunk}
use Rattle.pi_guard.specs.declared.broad.Bytes256.{Bytes256}
use Rattle.pi_guard.specs.declared.broad.Trail.{Trail}
use Rattle.pi_guard.specs.declared.quarters.Four.{Four}
use Rattle.pi_guard.specs.Register.{register}
use Rattle.pi_guard.specs.AfterZeros.{later}
use Rattle.pi_guard.specs.Trails.{owed_at, wide_owed_by}
use Rattle.pi_guard.specs.Windows.{by_halves}

-- what two vectors of 32 bytes give, one after another, whose halves are each moved on by p bytes, of 16 = p + q
abbrev pub aligned_by : ℕ → ℕ → List ℕ → List ℕ
aligned_by p q uv = chunk p q uv ++ (chunk 32 p uv ++ (chunk (16 + p) q uv ++ chunk 48 p uv))

-- What 256 bytes of a quotient still owe: x ^ 2016 is x ^ 864 + x ^ 224 + 1 on division by the polynomial, so each byte is owed 144, 224 and 252 places on.
abbrev pub broad_owed_by : List ℕ → ℕ
broad_owed_by w = owed_at 112 32 4 w

-- the register after 256 bytes of zeros
unfoldable pub after_256 : ℕ → ℕ
after_256 r = later 256 r

-- what the first 32 bytes after a trail are owed, by what its first two vectors owe 252 places on, and its second, fourth and fifth
abbrev pub broad_owed_next : List ℕ → List ℕ → List ℕ → List ℕ → List ℕ
broad_owed_next far b d e = zip2 bit_xor (chunk 16 32 (d ++ e)) (zip2 bit_xor b far)

-- With some 32 bytes in front of it the trail owes what the register r leaves, and what it keeps apart is what it owes 252 places on.
pub record Owes (r : ℕ) (t : Trail) : Type 0 where
  pub a : List ℕ
  pub long_a : length a ≡ 32
  pub long_b : length t.b ≡ 32
  pub long_c : length t.c ≡ 32
  pub long_d : length t.d ≡ 32
  pub long_e : length t.e ≡ 32
  pub long_f : length t.f ≡ 32
  pub long_g : length t.g ≡ 32
  pub long_h : length t.h ≡ 32
  pub far_a : t.far_a ≡ chunk 4 32 (a ++ t.b)
  pub far_b : t.far_b ≡ chunk 4 32 (t.b ++ t.c)
  pub far_c : t.far_c ≡ chunk 4 32 (t.c ++ t.d)
  pub owed : broad_owed_by (a ++ (t.b ++ (t.c ++ (t.d ++ (t.e ++ (t.f ++ (t.g ++ t.h))))))) ≡ after_256 r

-- the register after the bytes of the window
unfoldable pub broad_register : Bytes256 → ℕ
broad_register s = register 0 (s.a ++ (s.b ++ (s.c ++ (s.d ++ (s.e ++ (s.f ++ (s.g ++ s.h)))))))

unfoldable pub four_register : Four → ℕ
four_register s = register 0 (s.a ++ (s.b ++ (s.c ++ s.d)))

-- what 128 bytes of a quotient still owe, as in vectors of sixteen
unfoldable pub four_owed : Four → ℕ
four_owed t = wide_owed_by (t.a ++ (t.b ++ (t.c ++ t.d)))

-- what the first 32 bytes after a trail of 128 bytes that begins with these are owed
abbrev pub four_owed_next : List ℕ → List ℕ → List ℕ → List ℕ
four_owed_next a b c = zip2 bit_xor (chunk 24 32 (b ++ c)) (zip2 bit_xor (chunk 16 32 (a ++ b)) (chunk 2 32 (a ++ b)))

-- what the two halves of each byte give by two tables, which have other entries for the first sixteen bytes than for the last
abbrev pub by_sixteens : List ℕ → List ℕ → List ℕ → List ℕ
by_sixteens high low v = map (by_halves high low) (chunk 0 16 v) ++ map (by_halves (drop 16 high) (drop 16 low)) (chunk 16 16 v)
