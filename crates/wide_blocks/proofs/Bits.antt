-- Bits of numbers by masks and shifts.
use Rattle.std.proofs.Common.{◌≡◌, ℕ, ◌+◌, ◌-◌, ◌*◌, ◌%◌, ◌^◌, ◌<◌, ◌≤◌, length, refl, ap, ◌∙◌, arith}
use Rattle.std.specs.Prelude.{bit_and}
use Rattle.std.proofs.Math.Nat.{add-mul-mod_self_left, mod-eq_of_lt, mul_comm, mul-le-mul_right}
use Rattle.std.proofs.lemmas.Nat.{and_mask, mod_below, pow-add, pow_pos}
use Rattle.wide_blocks.specs.declared.information.Information.{Information}
use Rattle.wide_blocks.specs.declared.layout.NvmeLayout.{NvmeLayout}
use Rattle.wide_blocks.specs.Information.{info_bytes}
use Rattle.small_laws.proofs.Numbers.{next_block}

-- a power of two no larger than another
pub pow_up : (a b : ℕ) → a ≤ b → 2 ^ a ≤ 2 ^ b
pow_up a b h =
    let e : a + (b - a) ≡ b = omega arith in
    let p : 2 ^ (a + (b - a)) ≡ 2 ^ a * 2 ^ (b - a) = pow-add 2 a (b - a) in
    let q : 1 * 2 ^ a ≤ 2 ^ (b - a) * 2 ^ a = mul-le-mul_right (2 ^ a) (pow_pos (b - a)) in
    let c = mul_comm (2 ^ a) (2 ^ (b - a)) in
    let f = ap (λ n. 2 ^ n) e in
    omega arith

-- a number of so many bits with others behind it
pub joined_below : (high bits width low : ℕ) → high < 2 ^ bits → low < 2 ^ width → high * 2 ^ width + low < 2 ^ (bits + width)
joined_below high bits width low h l =
    let p : 2 ^ (bits + width) ≡ 2 ^ bits * 2 ^ width = pow-add 2 bits width in
    let q : (high + 1) * 2 ^ width ≤ 2 ^ bits * 2 ^ width = mul-le-mul_right (2 ^ width) (omega arith) in
    let s : (high + 1) * 2 ^ width ≡ high * 2 ^ width + 2 ^ width = next_block high (2 ^ width) in
    omega arith

-- what a mask of so many bits keeps
pub masked : (n width : ℕ) → width ≤ 64 → bit_and n (1 * 2 ^ width % 340282366920938463463374607431768211456 - 1) ≡ n % 2 ^ width
masked n width h =
    let up = pow_up width 64 h in
    let small : 2 ^ width ≤ 18446744073709551616 = up in
    let e : 1 * 2 ^ width % 340282366920938463463374607431768211456 ≡ 2 ^ width = omega arith in
    ap (λ m. bit_and n (m - 1)) e ∙ and_mask n width

-- a joined number fits 128 bits
pub record Joins (high bits width low : ℕ) : Type 0 where
  pub moved : high * 2 ^ width % 340282366920938463463374607431768211456 ≡ high * 2 ^ width
  pub below : high * 2 ^ width + low < 2 ^ (bits + width)
  pub fits : high * 2 ^ width + low < 340282366920938463463374607431768211456

pub joins : (high bits width low : ℕ) → high < 2 ^ bits → low < 2 ^ width → bits + width ≤ 128 → Joins high bits width low
joins high bits width low h l room =
    let b = joined_below high bits width low h l in
    let up : 2 ^ (bits + width) ≤ 340282366920938463463374607431768211456 = pow_up (bits + width) 128 room in
    record { moved = mod-eq_of_lt (omega arith); below = b; fits = omega arith }

pub kept_below : (n width : ℕ) → n % 2 ^ width < 2 ^ width
kept_below n width = mod_below n (2 ^ width) (pow_pos width)

-- sixteen bytes spell the information
pub sixteen : (l : NvmeLayout) (t : Information) → length (info_bytes l t) ≡ 16
unfolding info_bytes
sixteen l t = refl

pub all_ones : (width : ℕ) → width ≤ 64 → 340282366920938463463374607431768211455 % 2 ^ width ≡ 2 ^ width - 1
all_ones width h =
    let e : width + (128 - width) ≡ 128 = omega arith in
    let p : 2 ^ (width + (128 - width)) ≡ 2 ^ width * 2 ^ (128 - width) = pow-add 2 width (128 - width) in
    let f : 2 ^ (width + (128 - width)) ≡ 340282366920938463463374607431768211456 = ap (λ n. 2 ^ n) e in
    let a = pow_pos width in
    let b = pow_pos (128 - width) in
    let k = 2 ^ (128 - width) - 1 in
    let g : 2 ^ width * (k + 1) ≡ 2 ^ width * k + 2 ^ width = mul_comm (2 ^ width) (k + 1) ∙ (next_block k (2 ^ width) ∙ ap (λ n. n + 2 ^ width) (mul_comm k (2 ^ width))) in
    let up : k + 1 ≡ 2 ^ (128 - width) = omega arith in
    let q : 2 ^ width * (k + 1) ≡ 2 ^ width * 2 ^ (128 - width) = ap (λ n. 2 ^ width * n) up in
    let s : 340282366920938463463374607431768211455 ≡ 2 ^ width - 1 + 2 ^ width * k = omega arith in
    ap (λ n. n % 2 ^ width) s ∙ (add-mul-mod_self_left (2 ^ width - 1) (2 ^ width) k ∙ mod-eq_of_lt (omega arith))
