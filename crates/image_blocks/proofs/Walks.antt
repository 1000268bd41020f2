-- Walks along a stretch: what lies in a room, what is left, and a text of which nothing was written.
use Rattle.std.proofs.Common.{◌≡◌, ℕ, ◌*◌, ◌/◌, ◌≤◌, List, ap, arith}
use Rattle.std.proofs.Math.Nat.{mul-div-le, mul-le-mul_left, mul_comm}
use Rattle.std.specs.Prelude.{min}
use Rattle.rig_api.specs.declared.units.UnitSpec.{UnitSpec}
use Rattle.image_blocks.specs.declared.stretch.Stretch.{Stretch}
use Rattle.image_blocks.specs.Places.{IsStretch, behind_in, front_in}

-- as many blocks as a room holds lie in it
pub in_room : (piece left : Stretch) (most room len : ℕ) → piece ≡ front_in left most → most ≡ min (room / len) 65536 → piece.count * len ≤ room
in_room piece left most room len e m =
    let c : piece.count ≡ min left.count most = ap (λ (v : Stretch). v.count) e in
    let a : len * piece.count ≤ len * (room / len) = mul-le-mul_left len (omega arith) in
    let b = mul-div-le room len in
    let d = mul_comm len piece.count in
    omega arith

-- the units have the first blocks of a stretch of theirs, and what is left of it
pub front_is : (us : List UnitSpec) (s : Stretch) (most : ℕ) → IsStretch us s → IsStretch us (front_in s most)
front_is us s most h = let b = h.last in record { device = h.device; first = h.first; last = omega arith }

pub behind_is : (us : List UnitSpec) (s : Stretch) (n : ℕ) → IsStretch us s → n ≤ s.count → IsStretch us (behind_in s n)
behind_is us s n h c = let a = h.first in let b = h.last in record { device = h.device; first = omega arith; last = omega arith }
