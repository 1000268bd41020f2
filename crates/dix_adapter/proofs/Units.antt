-- The units that a rig tells are those of its devices, and their blocks have one length.
use Rattle.std.proofs.Common.{◌≡◌, ◌<◌, ◌≤◌, ℕ, zero, suc, ◌+◌, ◌*◌, List, [], ◌∷◌, length, drop, get_or, refl, ap, sym, subst, ◌∙◌, arith, inl, inr, Option, Some, None}
use Rattle.std.proofs.lemmas.List.{length-drop, length-take-le, take_all, length-map}
use Rattle.rig_api.specs.Passed.{frames_of, stored_size, all_bytes, HeadersBytes_of as bytes_of, units_from, units_in, Stored, shape_of}
use Rattle.rig_api.specs.declared.units.UnitSpec.{UnitSpec}
use Rattle.rig_api.proofs.Passed.{frames_length}
use Rattle.rig_api.specs.Head.{units_of}
use Rattle.rig_api.specs.Telling.{IsStanding, Standing, StandsOn, no_spec, spec_at, specs_of, unit_at, units_told}
use Rattle.rig_api.proofs.HeadLaws.{image_long}
use Rattle.dix_adapter.specs.Ways.{shapes_of}
use Rattle.dix_adapter.proofs.Runs.{AllLong}

pub frames-long : (w n : ℕ) (bytes : List ℕ) → n * w ≤ length bytes → AllLong w (frames_of w n bytes)
frames-long w zero bytes h = tt
frames-long w (suc n) bytes h =
    let z : suc n * w ≡ w + n * w = omega arith in
    let d = length-drop w bytes in
    (length-take-le w bytes (omega arith), frames-long w n (drop w bytes) (omega arith))

pub shapes-are : (us : List UnitSpec) (bytes : List ℕ) → shapes_of (units_from us bytes) ≡ us
shapes-are [] bytes = refl
shapes-are (u ∷ us) bytes =
    ap (λ n. (record { ty = u.ty; blocks = n; size = u.size; first = u.first }) ∷ shapes_of (units_from us (drop (bytes_of u) bytes))) (frames_length (stored_size u.ty u.size) u.blocks bytes)
    ∙ ap (λ z. u ∷ z) (shapes-are us (drop (bytes_of u) bytes))

blocks-long : (us : List UnitSpec) (bytes : List ℕ) (dev : ℕ) → all_bytes us ≤ length bytes → dev < length us → AllLong (stored_size (unit_at (units_from us bytes) dev).ty (unit_at (units_from us bytes) dev).size) (unit_at (units_from us bytes) dev).blocks
blocks-long [] bytes dev h l = absurd (omega arith)
blocks-long (u ∷ us) bytes zero h l = frames-long (stored_size u.ty u.size) u.blocks bytes (omega arith)
blocks-long (u ∷ us) bytes (suc dev) h l = let d = length-drop (bytes_of u) bytes in blocks-long us (drop (bytes_of u) bytes) dev (omega arith) (omega arith)

-- the unit of a device
pub record Stands (s : Standing) (us : List Stored) (dev : ℕ) : Type 0 where
  pub shapes : shapes_of us ≡ specs_of s
  pub there : dev < length us
  pub shape : shape_of (unit_at us dev) ≡ spec_at s dev
  pub long : AllLong (stored_size (unit_at us dev).ty (unit_at us dev).size) (unit_at us dev).blocks

shape-there : (us : List Stored) (dev : ℕ) → dev < length us → shape_of (unit_at us dev) ≡ get_or (shapes_of us) dev no_spec
shape-there [] dev l = absurd (omega arith)
shape-there (u ∷ us) zero l = refl
shape-there (u ∷ us) (suc dev) l = shape-there us dev (omega arith)

of-image : (s : Standing) (bytes : List ℕ) (dev : ℕ) → StandsOn s (Some bytes) → dev < s.devices → Stands s (units_in (specs_of s) bytes) dev
of-image s bytes dev on l =
    let e : specs_of s ≡ units_of s.head = take_all s.devices (units_of s.head) (let x = on.devices in omega arith) in
    let n : dev < length (specs_of s) = (let x = on.devices in let y = ap length e in omega arith) in
    let sh = shapes-are (specs_of s) (drop 512 bytes) in
    let m : length (units_in (specs_of s) bytes) ≡ length (specs_of s) = sym (length-map (units_in (specs_of s) bytes) shape_of) ∙ ap length sh in
    let b : all_bytes (specs_of s) ≤ length (drop 512 bytes) = (let x = image_long s.head bytes on.right on.told in let y = ap all_bytes e in let d = length-drop 512 bytes in omega arith) in
    let t : dev < length (units_in (specs_of s) bytes) = omega (arith, n, m) in
    record {
      shapes = sh;
      there = t;
      shape = shape-there (units_in (specs_of s) bytes) dev t ∙ ap (λ z. get_or z dev no_spec) sh;
      long = blocks-long (specs_of s) (drop 512 bytes) dev b n;
    }

pub unit-stands : (s : Standing) (image : Option (List ℕ)) (us : List Stored) (dev : ℕ) → units_told s image ≡ Some us → IsStanding s image → dev < s.devices → Stands s us dev
unit-stands s None us dev e i l = absurd (none-some e)
  where
    none-some : None ≡ Some us → ⊥
    none-some e = cc
unit-stands s (Some bytes) us dev e (inl z) l = absurd (omega arith)
unit-stands s (Some bytes) us dev e (inr on) l = subst (λ x. Stands s x dev) (units-same e) (of-image s bytes dev on l)
  where
    units-same : Some (units_in (specs_of s) bytes) ≡ Some us → units_in (specs_of s) bytes ≡ us
    units-same e = ap (λ x. told-or x) e
      where
        told-or : Option (List Stored) → List Stored
        told-or None = []
        told-or (Some x) = x
