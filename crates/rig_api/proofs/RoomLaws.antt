-- Room for large blocks is room for small ones.
use Rattle.std.proofs.Common.{ℕ, ◌≤◌, ◌+◌, ◌*◌, arith}
use Rattle.rig_api.specs.Log.{Room, HasRoom}
use Rattle.std.proofs.Math.Nat.{mul-le-mul_right}

pub room_for : (a b exchanges blocks : ℕ) (r : Room) → a ≤ b → HasRoom b exchanges blocks r → HasRoom a exchanges blocks r
room_for a b exchanges blocks r h o =
    let m : (a + 8) * blocks ≤ (b + 8) * blocks = mul-le-mul_right blocks (omega arith) in
    let w = o.moved in
    record { records = o.records; labels = o.labels; moved = omega arith }
