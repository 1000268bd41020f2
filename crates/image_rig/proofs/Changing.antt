-- Blocks that are changed without a command.
use Rattle.std.proofs.Common.{◌≡◌, ℕ, ◌+◌, ◌<◌, ◌≤◌, Bool, true, List, length, get_or, take, drop, replicate, Option, Some, refl, sym, ap, ◌∙◌, arith}
use Rattle.std.specs.Prelude.{is_some, Result, Ok, Err, OnOk}
use Rattle.std.proofs.lemmas.List.{length-take, length-drop, length-replicate}
use Rattle.std.proofs.lemmas.Bool.{and_parts, eqb-true}
use Rattle.dix_base.specs.Told.{Apart, Becomes, HasLength, over}
use Rattle.fault_schedule.specs.Altered.{byte_at, xored_from}
use Rattle.fault_schedule.proofs.Xored.{length-xored}
use Rattle.rig_api.specs.Headers.{image_size, is_layout}
use Rattle.rig_api.specs.Image.{units_in}
use Rattle.rig_api.specs.Target.{Stored}
use Rattle.rig_api.specs.declared.units.UnitSpec.{UnitSpec}
use Rattle.target_model.proofs.Bytes.{becomes_some, over_back, told_length, size_most}
use Rattle.rig_api.specs.Head.{Head, units_of}
use Rattle.rig_api.specs.Telling.{block_at, can_change, changed, frame_size, has_address, no_spec, source_of, unit_at, with_block}
use Rattle.rig_api.specs.declared.change.Change.{Change}
use Rattle.rig_api.specs.declared.change.Change.TheVariants.{Flip, Copy}
use Rattle.image_rig.specs.Changes.{IsChanged, altered_by, source_place}
use Rattle.image_rig.specs.LayoutPlaces.{block_len, block_place}
use Rattle.image_rig.specs.Places.{can_change_in}
use Rattle.image_rig.specs.Told.{standing_of, units_of_image}
use Rattle.image_rig.proofs.Devices.{Open, image_of, size_here, units_are}
use Rattle.image_rig.proofs.Units.{Address, addressed, block_changed, block_found, block_held, unit_found}

pub target_address : (us : List UnitSpec) (dev lba : ℕ) (change : Change) → dev < length us → can_change_in us dev lba change ≡ true → Address us dev lba
target_address us dev lba (Flip off bytes) d c = addressed us dev lba d c
target_address us dev lba (Copy from at) d c = addressed us dev lba d (and_parts _ _ c).0

-- a block that is copied has an address, and the length of the one that it replaces
source_address : (us : List UnitSpec) (dev lba from at : ℕ) → can_change_in us dev lba (Copy from at) ≡ true → (has_address (get_or us from no_spec) at ≡ true) × (block_len us from ≡ block_len us dev)
source_address us dev lba from at c =
    let r = and_parts _ _ (and_parts _ _ c).1 in
    (r.0, eqb-true (block_len us from) (block_len us dev) r.1)

pub source_held : (us : List UnitSpec) (dev lba : ℕ) (change : Change) → dev < length us → source_of change dev < length us → can_change_in us dev lba change ≡ true → source_place us dev lba change + block_len us dev ≤ image_size us
source_held us dev lba (Flip off bytes) d s c = block_held us dev lba (addressed us dev lba d c)
source_held us dev lba (Copy from at) d s c =
    let r = source_address us dev lba from at c in
    let e = r.1 in
    let h = block_held us from at (addressed us from at s r.0) in
    omega arith

pub block_behind : (us : List UnitSpec) (dev lba : ℕ) → 512 ≤ block_place us dev lba
block_behind us dev lba = omega arith

altered_long : (change : Change) (block : List ℕ) → length (altered_by change block) ≡ length block
altered_long (Flip off bytes) block = length-xored (byte_at off bytes) 0 block
altered_long (Copy from at) block = refl

-- what is read and changed, as blocks of the units
made : (us : List UnitSpec) (was : List ℕ) (dev lba : ℕ) (change : Change) → dev < length us → source_of change dev < length us → can_change_in us dev lba change ≡ true →
    altered_by change (take (block_len us dev) (drop (source_place us dev lba change) was)) ≡ changed (units_in us was) change (block_at (units_in us was) dev lba)
made us was dev lba (Flip off bytes) d s c = ap (xored_from (byte_at off bytes) 0) (sym (block_found us was dev lba (addressed us dev lba d c)))
made us was dev lba (Copy from at) d s c =
    let r = source_address us dev lba from at c in
    ap (λ n. take n (drop (block_place us from at) was)) (sym r.1) ∙ sym (block_found us was from at (addressed us from at s r.0))

cut_long : (n at : ℕ) (xs : List ℕ) → at + n ≤ length xs → length (take n (drop at xs)) ≡ n
cut_long n at xs h = let a = length-take n (drop at xs) in let b = length-drop at xs in omega arith

-- the units after a change that was made
pub changed_units : (us : List UnitSpec) (h : Head) (len dev lba : ℕ) (change : Change) (old new : Option (List ℕ)) (found : List Stored) → Open us h len → dev < length us → source_of change dev < length us → can_change_in us dev lba change ≡ true →
    ((was : List ℕ) → old ≡ Some was → length was ≡ len) → units_of_image (length us) h old ≡ Some found →
    Becomes (IsChanged us dev lba change) old new →
    units_of_image (length us) h new ≡ Some (with_block found dev lba (changed found change (block_at found dev lba)))
changed_units us h len dev lba change old new found o d s c long e b =
    let i = image_of (length us) h old found e in
    let f : found ≡ units_in us i.0 = i.2 ∙ ap (λ v. units_in v i.0) o.named in
    let r = becomes_some (IsChanged us dev lba change) old new i.0 i.1 b in
    let l : length i.0 ≡ image_size us = long i.0 i.1 ∙ o.size in
    let held = source_held us dev lba change d s c in
    let was = take (block_len us dev) (drop (source_place us dev lba change) i.0) in
    let lx : length (altered_by change was) ≡ block_len us dev = altered_long change was ∙ cut_long (block_len us dev) (source_place us dev lba change) i.0 (omega arith) in
    units_are us h new r.0 o.named r.1
    ∙ ap (λ v. Some (units_in us v)) r.2
    ∙ ap Some (block_changed us i.0 (altered_by change was) dev lba (target_address us dev lba change d c) lx l)
    ∙ ap (λ v. Some (with_block (units_in us i.0) dev lba v)) (made us i.0 dev lba change d s c)
    ∙ ap (λ v. Some (with_block v dev lba (changed v change (block_at v dev lba)))) (sym f)

-- the units after one that failed
pub left_units : (us : List UnitSpec) (h : Head) (len dev lba : ℕ) (change : Change) (old new : Option (List ℕ)) (found : List Stored) → Open us h len → dev < length us → can_change_in us dev lba change ≡ true →
    ((was : List ℕ) → old ≡ Some was → length was ≡ len) → units_of_image (length us) h old ≡ Some found →
    Becomes (Apart (block_place us dev lba) (block_len us dev)) old new →
    (block : List ℕ) × (length block ≡ frame_size (unit_at found dev)) × (units_of_image (length us) h new ≡ Some (with_block found dev lba block))
left_units us h len dev lba change old new found o d c long e b =
    let i = image_of (length us) h old found e in
    let f : found ≡ units_in us i.0 = i.2 ∙ ap (λ v. units_in v i.0) o.named in
    let r = becomes_some (Apart (block_place us dev lba) (block_len us dev)) old new i.0 i.1 b in
    let l : length i.0 ≡ image_size us = long i.0 i.1 ∙ o.size in
    let a = target_address us dev lba change d c in
    let held = block_held us dev lba a in
    let same = r.2.0 in
    let x = take (block_len us dev) (drop (block_place us dev lba) r.0) in
    let lx : length x ≡ block_len us dev = cut_long (block_len us dev) (block_place us dev lba) r.0 (omega arith) in
    let back : r.0 ≡ over (block_place us dev lba) x i.0 = over_back (block_place us dev lba) (block_len us dev) i.0 r.0 (omega arith) r.2 in
    let size : frame_size (unit_at found dev) ≡ block_len us dev = ap (λ (v : List Stored). frame_size (unit_at v dev)) f ∙ ap frame_size (unit_found us (drop 512 i.0) dev d) in
    let units : units_of_image (length us) h new ≡ Some (with_block found dev lba x) =
    units_are us h new r.0 o.named r.1
    ∙ ap (λ v. Some (units_in us v)) back
    ∙ ap Some (block_changed us i.0 x dev lba a lx l)
    ∙ ap (λ v. Some (with_block v dev lba x)) (sym f) in
    (x, lx ∙ sym size, units)

-- ---- what a call says of them

pub same_can : (n : ℕ) (h : Head) (name : List ℕ) (openings dev lba : ℕ) (change : Change) → can_change (standing_of n h name openings) dev lba change ≡ can_change_in (take n (units_of h)) dev lba change
same_can n h name openings dev lba (Flip off bytes) = refl
same_can n h name openings dev lba (Copy from at) = refl

pub can_of : (us : List UnitSpec) (h : Head) (name : List ℕ) (openings dev lba : ℕ) (change : Change) (b : Bool) → take (length us) (units_of h) ≡ us → can_change (standing_of (length us) h name openings) dev lba change ≡ b → can_change_in us dev lba change ≡ b
can_of us h name openings dev lba change b n e = ap (λ v. can_change_in v dev lba change) (sym n) ∙ sym (same_can (length us) h name openings dev lba change) ∙ e

told_image : (n : ℕ) (h : Head) (image : Option (List ℕ)) (found : List Stored) → units_of_image n h image ≡ Some found → is_some image ≡ true
told_image n h image found e = let i = image_of n h image found e in ap is_some i.1

pub can_where_told : (us : List UnitSpec) (h : Head) (name : List ℕ) (openings dev lba : ℕ) (change : Change) (image : Option (List ℕ)) (found : List Stored) → take (length us) (units_of h) ≡ us →
    (is_some image ≡ true → can_change (standing_of (length us) h name openings) dev lba change ≡ true) → units_of_image (length us) h image ≡ Some found → can_change_in us dev lba change ≡ true
can_where_told us h name openings dev lba change image found n p e = can_of us h name openings dev lba change true n (p (told_image (length us) h image found e))

pub on_ok : {A E : Type 0} {C P Q : Type 0} (r : Result A E) → (C → OnOk r P) → ((C → P) → Q) → OnOk r Q
on_ok (Ok x) f k = k f
on_ok (Err e) f k = tt

pub long_as : (image : Option (List ℕ)) (len : ℕ) → HasLength len image → (was : List ℕ) → image ≡ Some was → length was ≡ len
long_as image len h was e = sym (told_length image len was e h)

-- ---- room for a block

pub block_small : (us : List UnitSpec) (dev n : ℕ) → is_layout us ≡ true → dev < length us → n ≤ (get_or us dev no_spec).size + 8 → n ≤ 4104
block_small us dev n l d b = let s = size_most (get_or us dev no_spec).size (size_here us dev l d) in omega arith

pub fits_room : (at n len : ℕ) → n ≤ 4104 → at + n ≤ len → at + length (take n (replicate {A = ℕ} 4104 0)) ≤ len
fits_room at n len h l =
    let zeros : List ℕ = replicate 4104 0 in
    let a = length-take n zeros in
    let b = length-replicate {A = ℕ} 4104 0 in
    omega arith
