-- The blocks of a told unit have one length.
use Rattle.std.proofs.Common.{◌≡◌, ◌<◌, ◌≤◌, ℕ, zero, suc, ◌+◌, ◌*◌, List, [], ◌∷◌, length, drop, ap, subst, arith, inl, inr, Option, Some, None}
use Rattle.std.proofs.lemmas.List.{length-drop, length-take-le, take_all}
use Rattle.rig_api.specs.Frames.{frames_of, stored_size}
use Rattle.rig_api.specs.Headers.{all_bytes, bytes_of}
use Rattle.rig_api.specs.Image.{units_from, units_in}
use Rattle.rig_api.specs.Target.{Stored}
use Rattle.rig_api.specs.declared.units.UnitSpec.{UnitSpec}
use Rattle.rig_api.specs.Head.{units_of}
use Rattle.rig_api.specs.Telling.{IsStanding, Standing, StandsOn, specs_of, unit_at, units_told}
use Rattle.rig_api.proofs.HeadLaws.{image_long}
use Rattle.nvme_front.proofs.Ending.{AllLong}

frames-long : (w n : ℕ) (bytes : List ℕ) → n * w ≤ length bytes → AllLong w (frames_of w n bytes)
frames-long w zero bytes h = tt
frames-long w (suc n) bytes h =
    let z : suc n * w ≡ w + n * w = omega arith in
    let d = length-drop w bytes in
    (length-take-le w bytes (omega arith), frames-long w n (drop w bytes) (omega arith))

abbrev pub IsWhole : Stored → Type 0
IsWhole u = AllLong (stored_size u.ty u.size) u.blocks

blocks-long : (us : List UnitSpec) (bytes : List ℕ) (dev : ℕ) → all_bytes us ≤ length bytes → dev < length us → IsWhole (unit_at (units_from us bytes) dev)
blocks-long [] bytes dev h l = absurd (omega arith)
blocks-long (u ∷ us) bytes zero h l = frames-long (stored_size u.ty u.size) u.blocks bytes (omega arith)
blocks-long (u ∷ us) bytes (suc dev) h l = let d = length-drop (bytes_of u) bytes in blocks-long us (drop (bytes_of u) bytes) dev (omega arith) (omega arith)

of-image : (s : Standing) (bytes : List ℕ) (dev : ℕ) → StandsOn s (Some bytes) → dev < s.devices → IsWhole (unit_at (units_in (specs_of s) bytes) dev)
of-image s bytes dev on l =
    let e : specs_of s ≡ units_of s.head = take_all s.devices (units_of s.head) (let x = on.devices in omega arith) in
    let n : dev < length (specs_of s) = (let x = on.devices in let y = ap length e in omega arith) in
    let b : all_bytes (specs_of s) ≤ length (drop 512 bytes) = (let x = image_long s.head bytes on.right on.told in let y = ap all_bytes e in let d = length-drop 512 bytes in omega arith) in
    blocks-long (specs_of s) (drop 512 bytes) dev b n

pub unit-whole : (s : Standing) (image : Option (List ℕ)) (us : List Stored) (dev : ℕ) → units_told s image ≡ Some us → IsStanding s image → dev < s.devices → IsWhole (unit_at us dev)
unit-whole s None us dev e i l = absurd (cc)
unit-whole s (Some bytes) us dev e (inl z) l = absurd (omega arith)
unit-whole s (Some bytes) us dev e (inr on) l =
    let told : Some (units_in (specs_of s) bytes) ≡ Some us = e in
    let same : units_in (specs_of s) bytes ≡ us = cc in
    subst (λ x. IsWhole (unit_at x dev)) same (of-image s bytes dev on l)
