-- An image is its header, and behind it the blocks of its units.
use Rattle.std.proofs.Common.{◌≡◌, ℕ, ◌+◌, List, [], ◌∷◌, ◌++◌, length, take, drop, None, refl, sym, ap, ◌∙◌, arith}
use Rattle.std.proofs.Math.Seq.{take-add}
use Rattle.std.proofs.lemmas.List.{length-drop, take-append-drop, take_all}
use Rattle.rig_api.specs.Frames.{frames_of, joined, stored_size}
use Rattle.rig_api.specs.Headers.{all_bytes, bytes_of}
use Rattle.rig_api.specs.Image.{units_from}
use Rattle.rig_api.specs.declared.units.UnitSpec.{UnitSpec}
use Rattle.rig_api.proofs.FrameLaws.{joined_append}
use Rattle.rig_api.specs.Head.{head_fault, head_of, units_of}
use Rattle.dix_adapter.specs.Ways.{blocks_told}
use Rattle.image_rig.proofs.Heads.{right_head, right_units}
use Rattle.image_laws.specs.Over.{blocks_in, image_with}
use Rattle.run_command.proofs.Passed.{joined_frames}

joined_units : (us : List UnitSpec) (bytes : List ℕ) → joined (blocks_told (units_from us bytes)) ≡ take (all_bytes us) bytes
joined_units [] bytes = refl
joined_units (u ∷ us) bytes =
    joined_append (frames_of (stored_size u.ty u.size) u.blocks bytes) (blocks_told (units_from us (drop (bytes_of u) bytes)))
    ∙ ap (λ xs. xs ++ joined (blocks_told (units_from us (drop (bytes_of u) bytes)))) (joined_frames (stored_size u.ty u.size) u.blocks bytes)
    ∙ ap (λ xs. take (bytes_of u) bytes ++ xs) (joined_units us (drop (bytes_of u) bytes))
    ∙ sym (take-add (bytes_of u) (all_bytes us) bytes)

-- the length that a right head has
long : (image : List ℕ) → head_fault (head_of image) ≡ None → length image ≡ 512 + all_bytes (units_of (head_of image))
long image h = let r = right_head (head_of image) h in r.size ∙ ap (λ (us : List UnitSpec). 512 + all_bytes us) (sym (right_units (head_of image) r))

pub image_is_cut : (image : List ℕ) → head_fault (head_of image) ≡ None → image ≡ image_with image (blocks_in image)
image_is_cut image h =
    let l = long image h in
    let d = length-drop 512 image in
    sym (take-append-drop 512 image)
    ∙ ap (λ xs. take 512 image ++ xs) (sym (take_all (all_bytes (units_of (head_of image))) (drop 512 image) (omega (arith, l, d))) ∙ sym (joined_units (units_of (head_of image)) (drop 512 image)))
