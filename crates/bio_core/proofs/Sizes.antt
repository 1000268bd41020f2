-- Blocks within a request have their bytes within its bytes.
use Rattle.std.proofs.Common.{◌≡◌, ℕ, ◌+◌, ◌*◌, ◌/◌, ◌≤◌, arith}
use Rattle.std.proofs.Math.Nat.{mul-le-mul_right, mul-div-le}

-- the data of n blocks from block k on lies in the body
pub blocks_fit : (k n count all size : ℕ) → k + n ≤ count → size ≡ all / count → k * size + n * size ≤ all
blocks_fit k n count all size within e =
    let p : (k + n) * size ≤ count * size = mul-le-mul_right size within in
    let q : count * (all / count) ≤ all = mul-div-le all count in
    let r : count * size ≡ count * (all / count) = cc in
    let s : (k + n) * size ≡ k * size + n * size = grind arith in
    omega arith
