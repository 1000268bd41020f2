-- The block sizes of a rig's devices.
use Rattle.std.proofs.Common.{ℕ, ◌≡◌, ◌<◌, ◌≤◌, inl, inr, true, List, [], length, take, Option, refl, ap, ◌∙◌, arith}
use Rattle.std.specs.Prelude.{OnOk, Result, Ok, Err}
use Rattle.rig_api.specs.Headers.{is_layout}
use Rattle.rig_api.specs.declared.units.UnitSpec.{UnitSpec}
use Rattle.rig_api.specs.Head.{units_of}
use Rattle.rig_api.specs.Log.{HasRoom, Room}
use Rattle.rig_api.specs.Telling.{IsStanding, Standing, greatest, greatest_size, spec_at, specs_of}
use Rattle.rig_api.proofs.HeadLaws.{all_specs, right_layout}
use Rattle.rig_api.proofs.RoomLaws.{room_for}
use Rattle.image_rig.proofs.Devices.{greatest_small, size_here, size_most}
use Rattle.target_model.proofs.Bytes.{size_most as size_least}

none : (s : Standing) (us : List UnitSpec) → s.devices ≡ 0 → take s.devices us ≡ []
none s us e = ap (λ n. take n us) e

pub greatest_few : (s : Standing) (image : Option (List ℕ)) → IsStanding s image → greatest_size s ≤ 4096
greatest_few s image (inl e) = let k : greatest_size s ≡ 0 = ap greatest (none s (units_of s.head) e) in omega (arith, k)
greatest_few s image (inr on) =
    let k : greatest_size s ≡ greatest (units_of s.head) = ap greatest (all_specs s on.devices) in
    let m = greatest_small (units_of s.head) s.head (λ some. on.right) (λ some. refl) in
    omega (arith, k, m)

-- a device's block size is at most 4,096 and at most the greatest
pub sizes : (s : Standing) (image : Option (List ℕ)) (dev : ℕ) → IsStanding s image → dev < s.devices → ((spec_at s dev).size ≤ 4096) × ((spec_at s dev).size ≤ greatest_size s)
sizes s image dev (inl e) d = absurd (omega (arith, e, d))
sizes s image dev (inr on) d =
    let all = all_specs s on.devices in
    let here : dev < length (specs_of s) = let n = ap length all in omega (arith, d, on.devices, n) in
    let right : is_layout (specs_of s) ≡ true = ap is_layout all ∙ right_layout s.head on.right in
    (size_least (spec_at s dev).size (size_here (specs_of s) dev right here), size_most (specs_of s) dev here)

-- room for greater blocks, where it was made
pub room_for_all : {X E : Type 0} (a b exchanges blocks : ℕ) (r : Room) (made : Result X E) → a ≤ b → OnOk made (HasRoom b exchanges blocks r) → OnOk made (HasRoom a exchanges blocks r)
room_for_all a b exchanges blocks r (Ok x) h o = room_for a b exchanges blocks r h o
room_for_all a b exchanges blocks r (Err e) h o = tt
