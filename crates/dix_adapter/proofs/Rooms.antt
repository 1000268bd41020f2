-- Room for one command is room for less.
use Rattle.std.proofs.Common.{◌≤◌, ℕ, ◌+◌, ◌*◌, arith}
use Rattle.std.proofs.Math.Nat.{mul-le-mul_left, mul-le-mul_right}
use Rattle.dix_adapter.specs.declared.scratch.Scratch.{Scratch}
use Rattle.dix_adapter.specs.Room.{HoldsBlocks}

-- room for so many blocks is room for fewer, of fewer bytes
pub holds-fewer : (bytes least most n : ℕ) (s : Scratch) → least ≤ bytes → n ≤ most → HoldsBlocks bytes most s → HoldsBlocks least n s
holds-fewer bytes least most n s b l h =
    let f = h.frames in
    let r : n * (least + 8) ≤ most * (least + 8) = mul-le-mul_right (least + 8) l in
    let q : most * (least + 8) ≤ most * (bytes + 8) = mul-le-mul_left most (let z : least + 8 ≤ bytes + 8 = omega arith in z) in
    let w = h.few in
    let x = h.labels in
    record { frames = omega arith; few = omega arith; labels = omega arith }
