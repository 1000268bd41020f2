-- An image is its first 512 bytes and then the blocks of its units.
use Rattle.std.proofs.Common.{ℕ, zero, suc, ◌≡◌, ◌<◌, ◌≤◌, ◌+◌, ◌*◌, leb, List, [], ◌∷◌, ◌++◌, length, take, drop, Option, Some, None, refl, sym, ap, subst, ◌∙◌, inl, inr, arith}
use Rattle.std.specs.Prelude.{is_some}
use Rattle.std.proofs.lemmas.Bool.{leb-true}
use Rattle.std.proofs.Math.Seq.{take-add}
use Rattle.std.proofs.lemmas.List.{length-drop, take-append-drop, take_all}
use Rattle.std.proofs.lemmas.Option.{same_Some}
use Rattle.rig_api.specs.Frames.{frames_of, joined, stored_size}
use Rattle.rig_api.specs.Headers.{all_bytes, bytes_of}
use Rattle.rig_api.specs.Image.{units_from, units_in}
use Rattle.rig_api.specs.Target.{Stored}
use Rattle.rig_api.specs.declared.units.UnitSpec.{UnitSpec}
use Rattle.rig_api.specs.Head.{Head, head_fault, units_of}
use Rattle.rig_api.specs.Telling.{IsStanding, Standing, StandsOn, specs_of, units_told}
use Rattle.rig_api.proofs.HeadLaws.{image_long, right_layout}
use Rattle.small_laws.proofs.Tests.{and_first}

-- the bytes of these units' blocks, one after another
abbrev pub bytes_told : List Stored → List ℕ
bytes_told [] = []
bytes_told (u ∷ us) = joined u.blocks ++ bytes_told us

-- ---- how long an image is

-- a right head tells a unit
pub some_unit : (h : Head) → head_fault h ≡ None → 0 < length (units_of h)
some_unit h e = let x = leb-true 1 (length (units_of h)) (and_first (leb 1 (length (units_of h))) _ (right_layout h e)) in omega arith

-- ---- its blocks

pub joined_frames : (len n : ℕ) (b : List ℕ) → joined (frames_of len n b) ≡ take (n * len) b
joined_frames len zero b = let z : 0 * len ≡ 0 = omega arith in rw z refl
joined_frames len (suc n) b =
    let e : suc n * len ≡ len + n * len = omega arith in
    ap (λ v. take len b ++ v) (joined_frames len n (drop len b)) ∙ sym (take-add len (n * len) b) ∙ ap (λ k. take k b) (sym e)

told_bytes : (us : List UnitSpec) (b : List ℕ) → bytes_told (units_from us b) ≡ take (all_bytes us) b
told_bytes [] b = refl
told_bytes (u ∷ us) b =
    ap (λ v. v ++ bytes_told (units_from us (drop (bytes_of u) b))) (joined_frames (stored_size u.ty u.size) u.blocks b)
    ∙ ap (λ v. take (bytes_of u) b ++ v) (told_bytes us (drop (bytes_of u) b)) ∙ sym (take-add (bytes_of u) (all_bytes us) b)

laid_out : (s : Standing) (bytes : List ℕ) → StandsOn s (Some bytes) → bytes ≡ take 512 bytes ++ bytes_told (units_in (specs_of s) bytes)
laid_out s bytes on =
    let e : specs_of s ≡ units_of s.head = take_all s.devices (units_of s.head) (let x = on.devices in omega arith) in
    let few : length (drop 512 bytes) ≤ all_bytes (specs_of s) = (let x = image_long s.head bytes on.right on.told in let y = ap all_bytes e in let d = length-drop 512 bytes in omega arith) in
    sym (take-append-drop 512 bytes) ∙ ap (λ v. take 512 bytes ++ v) (sym (told_bytes (specs_of s) (drop 512 bytes) ∙ take_all (all_bytes (specs_of s)) (drop 512 bytes) few))

stands : (s : Standing) (image : Option (List ℕ)) → 0 < s.devices → IsStanding s image → StandsOn s image
stands s image some (inl z) = absurd (omega arith)
stands s image some (inr on) = on

-- Where the rig is told before and after, and stands on devices, its image is the first 512 bytes that it had and the blocks that are told.
pub holds_blocks : (s s' : Standing) (image image' : Option (List ℕ)) (units' : Option (List Stored)) → s' ≡ s → 0 < s.devices → IsStanding s image → IsStanding s' image' → units' ≡ units_told s' image' → is_some image' ≡ is_some image →
    (bytes : List ℕ) → image ≡ Some bytes → (left : List Stored) × (units' ≡ Some left) × (image' ≡ Some (take 512 bytes ++ bytes_told left))
holds_blocks s s' None image' units' same some ready ready' laid' tells bytes e = absurd (cc)
holds_blocks s s' (Some was) None units' same some ready ready' laid' tells bytes e = absurd (cc)
holds_blocks s s' (Some was) (Some is) units' same some ready ready' laid' tells bytes e =
    let on = stands s (Some was) some ready in
    let on' = stands s' (Some is) (subst (λ (x : Standing). 0 < x.devices) (sym same) some) ready' in
    let first : take 512 is ≡ take 512 bytes = ap (λ (h : Head). h.first) (sym on'.told ∙ ap (λ (x : Standing). x.head) same ∙ on.told) ∙ ap (take 512) (same_Some was bytes e) in
    let left = units_in (specs_of s') is in
    (left, laid', ap (λ (x : List ℕ). Some x) (laid_out s' is on' ∙ ap (λ v. v ++ bytes_told left) first))

-- Where no block changed, no byte did.
pub image_kept : (s s' : Standing) (image image' : Option (List ℕ)) (units units' : Option (List Stored)) → s' ≡ s → 0 < s.devices → IsStanding s image → IsStanding s' image' → units ≡ units_told s image → units' ≡ units_told s' image' → units' ≡ units → is_some image' ≡ is_some image → image' ≡ image
image_kept s s' None None units units' same some ready ready' laid laid' kept tells = refl
image_kept s s' None (Some is) units units' same some ready ready' laid laid' kept tells = absurd (cc)
image_kept s s' (Some was) None units units' same some ready ready' laid laid' kept tells = absurd (cc)
image_kept s s' (Some was) (Some is) units units' same some ready ready' laid laid' kept tells =
    let h = holds_blocks s s' (Some was) (Some is) units' same some ready ready' laid' tells was refl in
    let blocks : h.0 ≡ units_in (specs_of s) was = same_Some _ _ (sym h.1 ∙ kept ∙ laid) in
    h.2 ∙ ap (λ (x : List ℕ). Some x) (ap (λ (us : List Stored). take 512 was ++ bytes_told us) blocks ∙ sym (laid_out s was (stands s (Some was) some ready)))
