-- Quotients and remainders of a block's number in a stripe: c blocks in a chunk, n legs.
use Rattle.std.proofs.Common.{◌≡◌, ℕ, ◌+◌, ◌*◌, ◌/◌, ◌%◌, ◌<◌, sym, ap, ◌∙◌, subst, add-zero, arith}
use Rattle.std.proofs.lemmas.Nat.{div-mul-add, mod-mul-add, mul-add-lt, div_below, mod_below, div-add-mod'}
use Rattle.std.proofs.Math.Nat.{mul_assoc, mul_comm}

-- the block at this offset of leg i
abbrev pub spot : ℕ → ℕ → ℕ → ℕ → ℕ
spot c n i o = (o / c * n + i) * c + o % c

-- the offset of a block in its leg
abbrev pub offset : ℕ → ℕ → ℕ → ℕ
offset c n u = u / c / n * c + u % c

-- the chunks on one leg of a whole extent
rows : ℕ → ℕ → ℕ → ℕ
rows len c n = len / (c * n)

whole_len : (len c n : ℕ) → len % (c * n) ≡ 0 → len ≡ rows len c n * (c * n)
unfolding rows
whole_len len c n e = let h : len / (c * n) * (c * n) + len % (c * n) ≡ len = div-add-mod' len (c * n) in omega arith

share : (len c n : ℕ) → 0 < n → len % (c * n) ≡ 0 → len / n ≡ rows len c n * c
share len c n hn e =
    let m = rows len c n in
    let h : len ≡ m * c * n + 0 = whole_len len c n e ∙ sym (mul_assoc m c n) ∙ sym (add-zero (m * c * n)) in
    ap (λ x. x / n) h ∙ div-mul-add (m * c) n 0 hn

turned : (m c n : ℕ) → m * (c * n) ≡ c * (n * m)
turned m c n = mul_comm m (c * n) ∙ mul_assoc c n m

pub record IsSpot (len c n i o : ℕ) : Type 0 where
  pub below : spot c n i o < len
  pub chunk : spot c n i o / c ≡ o / c * n + i
  pub rest : spot c n i o % c ≡ o % c
  pub row : (o / c * n + i) / n ≡ o / c
  pub turn : (o / c * n + i) % n ≡ i

-- the block of each offset is in the extent, and lies there
pub spot_lies : (len c n i o : ℕ) → 0 < c → 0 < n → len % (c * n) ≡ 0 → i < n → o < len / n → IsSpot len c n i o
spot_lies len c n i o hc hn e hi ho =
    let m = rows len c n in
    let r : o % c < c = mod_below o c hc in
    let in_leg : o < m * c = subst (λ (x : ℕ). o < x) (share len c n hn e) ho in
    let x : o / c < m = div_below o c m hc in_leg in
    let q : o / c * n + i < n * m = mul-add-lt (o / c) n i m x hi in
    let u : (o / c * n + i) * c + o % c < c * (n * m) = mul-add-lt (o / c * n + i) c (o % c) (n * m) q r in
    record {
      below = subst (λ (x : ℕ). (o / c * n + i) * c + o % c < x) (sym (whole_len len c n e ∙ turned m c n)) u;
      chunk = div-mul-add (o / c * n + i) c (o % c) r;
      rest = mod-mul-add (o / c * n + i) c (o % c) r;
      row = div-mul-add (o / c) n i hi;
      turn = mod-mul-add (o / c) n i hi;
    }

pub record HasOffset (len c n u : ℕ) : Type 0 where
  pub leg : u / c % n < n
  pub below : offset c n u < len / n
  pub back : spot c n (u / c % n) (offset c n u) ≡ u

-- each block of the extent has its offset
pub has_offset : (len c n u : ℕ) → 0 < c → 0 < n → len % (c * n) ≡ 0 → u < len → HasOffset len c n u
has_offset len c n u hc hn e hu =
    let m = rows len c n in
    let r : u % c < c = mod_below u c hc in
    let below : u < n * m * c = subst (λ (x : ℕ). u < x) (whole_len len c n e ∙ turned m c n ∙ mul_comm c (n * m)) hu in
    let q : u / c < m * n = subst (λ (x : ℕ). u / c < x) (mul_comm n m) (div_below u c (n * m) hc below) in
    let x : u / c / n < m = div_below (u / c) n m hn q in
    let o : u / c / n * c + u % c < c * m = mul-add-lt (u / c / n) c (u % c) m x r in
    let row : offset c n u / c ≡ u / c / n = div-mul-add (u / c / n) c (u % c) r in
    let rest : offset c n u % c ≡ u % c = mod-mul-add (u / c / n) c (u % c) r in
    let chunk : u / c / n * n + u / c % n ≡ u / c = div-add-mod' (u / c) n in
    let whole : u / c * c + u % c ≡ u = div-add-mod' u c in
    record {
      leg = mod_below (u / c) n hn;
      below = subst (λ (x : ℕ). offset c n u < x) (mul_comm c m ∙ sym (share len c n hn e)) o;
      back = rw (row, rest, chunk) whole;
    }
