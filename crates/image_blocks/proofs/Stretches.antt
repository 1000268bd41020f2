-- Where the blocks of a stretch lie in an image, and what becomes of its units as they change.
use Rattle.std.proofs.Common.{◌≡◌, ℕ, ◌+◌, ◌-◌, ◌*◌, ◌≤◌, List, [], ◌++◌, length, get_or, set, take, drop, replicate, Option, Some, None, sym, ap, ◌∙◌, arith, length-append}
use Rattle.std.proofs.lemmas.List.{drop-drop, length-drop, length-replicate, length-take, take-take, take_all}
use Rattle.std.proofs.Math.Seq.{take-add}
use Rattle.std.proofs.Math.Nat.{mul_comm}
use Rattle.std.specs.Prelude.{Result, Ok, Err, OnOk}
use Rattle.dix_base.specs.Told.{Apart, Becomes, HasLength, IsRead, over}
use Rattle.rig_api.specs.Frames.{frames_of, joined, placed, stored_size}
use Rattle.rig_api.specs.Headers.{all_bytes, bytes_of, image_size}
use Rattle.rig_api.specs.Image.{unit_from, units_from, units_in}
use Rattle.rig_api.specs.Target.{Stored}
use Rattle.rig_api.specs.declared.units.UnitSpec.{UnitSpec}
use Rattle.rig_api.proofs.FrameLaws.{frames_length}
use Rattle.target_model.specs.Served.{AllLong}
use Rattle.target_model.proofs.Bytes.{frames_back, frames_part, joined_frames, long_both, long_drop, long_frames, long_take, over_back, placed_length, unit_over}
use Rattle.rig_api.specs.Telling.{holding, no_spec, unit_at}
use Rattle.image_rig.specs.LayoutPlaces.{block_len, block_place}
use Rattle.image_rig.proofs.Units.{behind_over, bytes_within, drop_over, frames_front, front_over, unit_found, units_change}
use Rattle.image_blocks.specs.declared.stretch.Stretch.{Stretch}
use Rattle.image_blocks.specs.Blocks.{AreLeft, ArePut, AreStored, HasStretch, blocks_at, blocks_of, with_stretch}
use Rattle.image_blocks.specs.Places.{IsStretch, behind_in, spec_of}
use Rattle.small_laws.proofs.Numbers.{within_all}

-- how many blocks of its unit stand before a stretch
abbrev before : List UnitSpec → Stretch → ℕ
before us s = s.first - (spec_of us s.dev).first

few_before : (us : List UnitSpec) (s : Stretch) → IsStretch us s → before us s + s.count ≤ (spec_of us s.dev).blocks
few_before us s h = let a = h.first in let b = h.last in omega arith

-- the stored blocks of a stretch, as bytes of the image
pub stretch_found : (us : List UnitSpec) (was : List ℕ) (s : Stretch) → IsStretch us s → blocks_at (units_in us was) s ≡ blocks_of us s (drop (block_place us s.dev s.first) was)
stretch_found us was s h =
    let u = get_or us s.dev no_spec in
    let p = all_bytes (take s.dev us) in
    let k = before us s in
    let len = stored_size u.ty u.size in
    let f = unit_found us (drop 512 was) s.dev h.device in
    let e : 512 + p + len * k ≡ block_place us s.dev s.first = omega arith in
    ap (λ (v : Stored). take s.count (drop (s.first - v.first) v.blocks)) f
    ∙ frames_part len k s.count u.blocks (drop p (drop 512 was)) (few_before us s h)
    ∙ ap (frames_of len s.count) (drop-drop (len * k) p (drop 512 was) ∙ drop-drop (p + len * k) 512 was ∙ ap (λ i. drop i was) (omega arith))

-- such a stretch lies in the image
pub stretch_held : (us : List UnitSpec) (s : Stretch) → IsStretch us s → block_place us s.dev s.first + s.count * block_len us s.dev ≤ image_size us
stretch_held us s h =
    let u = get_or us s.dev no_spec in
    let w = bytes_within us s.dev h.device in
    let b = within_all (before us s) s.count u.blocks (block_len us s.dev) (few_before us s h) in
    omega arith

-- what was read of the image are its blocks
pub blocks_read : (us : List UnitSpec) (was xs : List ℕ) (s : Stretch) → IsStretch us s → xs ≡ take (s.count * block_len us s.dev) (drop (block_place us s.dev s.first) was) →
    blocks_of us s xs ≡ blocks_at (units_in us was) s
blocks_read us was xs s h e =
    let n = s.count * block_len us s.dev in
    let b = drop (block_place us s.dev s.first) was in
    ap (blocks_of us s) e ∙ frames_front (block_len us s.dev) s.count (take n b) b (take-take n n b (omega arith)) ∙ sym (stretch_found us was s h)

-- blocks in the place of others
blocks_put : (len k n m : ℕ) (x b : List ℕ) → k + n ≤ m → length x ≡ n * len → m * len ≤ length b → frames_of len m (over (k * len) x b) ≡ placed k (frames_of len n x) (frames_of len m b)
blocks_put len k n m x b h lx lb =
    let cn : n * len ≡ len * n = mul_comm n len in
    let ck : k * len ≡ len * k = mul_comm k len in
    let cm : m * len ≡ len * m = mul_comm m len in
    let fs : List (List ℕ) = frames_of len n x in
    let all : List (List ℕ) = placed k fs (frames_of len m b) in
    let nf : length fs ≡ n = frames_length len n x in
    let whole : joined fs ≡ x = joined_frames len n x ∙ take_all (len * n) x (omega arith) in
    let long : length (joined fs) ≡ len * length fs = ap length whole ∙ lx ∙ cn ∙ ap (λ i. len * i) (sym nf) in
    let place : k * len ≡ 0 + len * k = omega arith in
    let o : over 0 (joined all) b ≡ over (0 + len * k) (joined fs) b = unit_over 0 len k m fs b (omega arith) long (omega arith) in
    let is : over (k * len) x b ≡ over 0 (joined all) b = ap (λ v. over (k * len) v b) (sym whole) ∙ ap (λ i. over i (joined fs) b) place ∙ sym o in
    let some : length all ≡ m = placed_length k fs (frames_of len m b) (let l = frames_length len m b in omega arith) ∙ frames_length len m b in
    let each : AllLong len all = long_both len _ _ (long_take len k _ (long_frames len m b (omega arith))) (long_both len _ _ (long_frames len n x (omega arith)) (long_drop len (k + length fs) _ (long_frames len m b (omega arith)))) in
    ap (frames_of len m) is ∙ ap (λ i. frames_of len i (joined all ++ drop (0 + length (joined all)) b)) (sym some) ∙ frames_back len all (drop (0 + length (joined all)) b) each

-- another stretch of blocks
pub stretch_put : (us : List UnitSpec) (was x : List ℕ) (s : Stretch) → IsStretch us s → length x ≡ s.count * block_len us s.dev → length was ≡ image_size us →
    units_in us (over (block_place us s.dev s.first) x was) ≡ with_stretch (units_in us was) s (blocks_of us s x)
stretch_put us was x s h lx lw =
    let u = get_or us s.dev no_spec in
    let p = all_bytes (take s.dev us) in
    let k = before us s in
    let len = stored_size u.ty u.size in
    let n = bytes_of u in
    let q = k * len in
    let b = drop 512 was in
    let lb = length-drop 512 was in
    let w = bytes_within us s.dev h.device in
    let r : q + s.count * len ≤ n = within_all k s.count u.blocks len (few_before us s h) in
    let place : block_place us s.dev s.first ≡ 512 + (p + q) = omega arith in
    let is : drop 512 (over (block_place us s.dev s.first) x was) ≡ over (p + q) x b = ap (λ i. drop 512 (over i x was)) place ∙ drop_over 512 (p + q) x was (omega arith) in
    let blocks : frames_of len u.blocks (drop p (over (p + q) x b)) ≡ placed k (frames_of len s.count x) (frames_of len u.blocks (drop p b)) =
    ap (frames_of len u.blocks) (drop_over p q x b (omega arith)) ∙ blocks_put len k s.count u.blocks x (drop p b) (few_before us s h) lx (let l = length-drop p b in omega arith) in
    let unit : unit_from u (drop p (over (p + q) x b)) ≡ holding (unit_from u (drop p b)) (placed k (frames_of len s.count x) (unit_from u (drop p b)).blocks) = ap (λ f. record { ty = u.ty; size = u.size; first = u.first; blocks = f }) blocks in
    let f = unit_found us b s.dev h.device in
    ap (units_from us) is
    ∙ units_change us b (over (p + q) x b) s.dev (holding (unit_from u (drop p b)) (placed k (frames_of len s.count x) (unit_from u (drop p b)).blocks)) h.device (front_over p q x b (omega arith)) (behind_over p q n x b (omega arith) (omega arith)) unit
    ∙ ap (λ (v : Stored). set (units_from us b) s.dev (holding v (placed (s.first - v.first) (blocks_of us s x) v.blocks))) (sym f)

-- ---- a walk along a stretch

take_two : (n m k : ℕ) (xs : List (List ℕ)) → take (n + m) (drop k xs) ≡ take n (drop k xs) ++ take m (drop (k + n) xs)
take_two n m k xs = take-add n m (drop k xs) ∙ ap (λ v. take n (drop k xs) ++ take m v) (drop-drop n k xs)

-- the blocks of a stretch are its first ones and those behind them
pub blocks_in_turn : (found : List Stored) (s : Stretch) (n : ℕ) → (unit_at found s.dev).first ≤ s.first → n ≤ s.count →
    blocks_at found s ≡ blocks_at found (record { dev = s.dev; first = s.first; count = n }) ++ blocks_at found (behind_in s n)
blocks_in_turn found s n f h =
    let u = unit_at found s.dev in
    let whole : s.count ≡ n + (s.count - n) = omega arith in
    let place : s.first - u.first + n ≡ s.first + n - u.first = omega arith in
    ap (λ i. take i (drop (s.first - u.first) u.blocks)) whole
    ∙ take_two n (s.count - n) (s.first - u.first) u.blocks
    ∙ ap (λ i. take n (drop (s.first - u.first) u.blocks) ++ take (s.count - n) (drop i u.blocks)) place

-- the same of the units of an image
pub stored_in_turn : (us : List UnitSpec) (was : List ℕ) (s : Stretch) (n : ℕ) → IsStretch us s → n ≤ s.count →
    blocks_at (units_in us was) s ≡ blocks_at (units_in us was) (record { dev = s.dev; first = s.first; count = n }) ++ blocks_at (units_in us was) (behind_in s n)
stored_in_turn us was s n h c =
    let f = unit_found us (drop 512 was) s.dev h.device in
    let first : (unit_at (units_in us was) s.dev).first ≡ (spec_of us s.dev).first = ap (λ (v : Stored). v.first) f in
    let low = h.first in
    blocks_in_turn (units_in us was) s n (omega arith) c

-- the first blocks, and those behind them
pub has_both : (us : List UnitSpec) (s : Stretch) (n : ℕ) (xs ys : List (List ℕ)) (image : Option (List ℕ)) → IsStretch us s → n ≤ s.count →
    HasStretch us (record { dev = s.dev; first = s.first; count = n }) xs image → HasStretch us (behind_in s n) ys image → HasStretch us s (xs ++ ys) image
has_both us s n xs ys image h c a b =
    let l = length-append xs ys in
    let m = a.many in
    let k = b.many in
    record { many = omega arith; long = long_both (block_len us s.dev) xs ys a.long b.long; stored = both_stored image a.stored b.stored }
  where
    both_stored : (image : Option (List ℕ)) → AreStored us (record { dev = s.dev; first = s.first; count = n }) xs image → AreStored us (behind_in s n) ys image → AreStored us s (xs ++ ys) image
    both_stored None p q = tt
    both_stored (Some was) p q = ap (λ v. v ++ ys) p ∙ ap (λ v. blocks_at (units_in us was) (record { dev = s.dev; first = s.first; count = n }) ++ v) q ∙ sym (stored_in_turn us was s n h c)

-- no blocks
pub has_none : (us : List UnitSpec) (s : Stretch) (image : Option (List ℕ)) → s.count ≡ 0 → HasStretch us s [] image
has_none us s image e = record { many = sym e; long = tt; stored = none image }
  where
    none : (image : Option (List ℕ)) → AreStored us s [] image
    none None = tt
    none (Some was) = let u = unit_at (units_in us was) s.dev in ap (λ n. take n (drop (s.first - u.first) u.blocks)) (sym e)

-- Whatever is told, there are such blocks.
pub has_some : (us : List UnitSpec) (s : Stretch) (len : ℕ) (image : Option (List ℕ)) → IsStretch us s → len ≡ image_size us → HasLength len image → (blocks : List (List ℕ)) × HasStretch us s blocks image
has_some us s len None h z l =
    let bytes : List ℕ = replicate (s.count * block_len us s.dev) 0 in
    let c = mul_comm s.count (block_len us s.dev) in
    let k = length-replicate {A = ℕ} (s.count * block_len us s.dev) 0 in
    (blocks_of us s bytes, record { many = frames_length (block_len us s.dev) s.count bytes; long = long_frames (block_len us s.dev) s.count bytes (omega arith); stored = tt })
has_some us s len (Some was) h z l =
    let bytes = drop (block_place us s.dev s.first) was in
    let c = mul_comm s.count (block_len us s.dev) in
    let k = length-drop (block_place us s.dev s.first) was in
    let held = stretch_held us s h in
    (blocks_of us s bytes, record { many = frames_length (block_len us s.dev) s.count bytes; long = long_frames (block_len us s.dev) s.count bytes (omega arith); stored = sym (stretch_found us was s h) })

-- ---- what a call of the store leaves

pub were_read : {X E : Type 0} (r : Result X E) (us : List UnitSpec) (s : Stretch) (at n : ℕ) (xs : List ℕ) (image : Option (List ℕ)) → IsStretch us s → at ≡ block_place us s.dev s.first → n ≡ s.count * block_len us s.dev →
    length xs ≡ s.count * block_len us s.dev → OnOk r (IsRead at n xs image) → OnOk r (HasStretch us s (blocks_of us s xs) image)
were_read (Err e) us s at n xs image h p l k r = tt
were_read (Ok x) us s at n xs image h p l k r =
    let c = mul_comm s.count (block_len us s.dev) in
    record { many = frames_length (block_len us s.dev) s.count xs; long = long_frames (block_len us s.dev) s.count xs (omega arith); stored = as_stored image r }
  where
    as_stored : (image : Option (List ℕ)) → IsRead at n xs image → AreStored us s (blocks_of us s xs) image
    as_stored None r = tt
    as_stored (Some was) r = blocks_read us was xs s h (r ∙ ap (λ k. take n (drop k was)) p ∙ ap (λ k. take k (drop (block_place us s.dev s.first) was)) l)

pub are_put : (us : List UnitSpec) (s : Stretch) (at len : ℕ) (xs : List ℕ) (old new : Option (List ℕ)) → IsStretch us s → at ≡ block_place us s.dev s.first → length xs ≡ s.count * block_len us s.dev → len ≡ image_size us → HasLength len old →
    Becomes (λ was is. is ≡ over at xs was) old new → ArePut us s (blocks_of us s xs) old new
are_put us s at len xs None None h p l z n b = tt
are_put us s at len xs None (Some is) h p l z n b = absurd b
are_put us s at len xs (Some was) None h p l z n b = absurd b
are_put us s at len xs (Some was) (Some is) h p l z n b = ap (units_in us) (b ∙ ap (λ i. over i xs was) p) ∙ stretch_put us was xs s h l (sym n ∙ z)

pub are_left : (us : List UnitSpec) (s : Stretch) (at len n : ℕ) (old new : Option (List ℕ)) → IsStretch us s → at ≡ block_place us s.dev s.first → n ≡ s.count * block_len us s.dev → len ≡ image_size us → HasLength len old →
    Becomes (Apart at n) old new → AreLeft us s old new
are_left us s at len n None None h p l z k b = tt
are_left us s at len n None (Some is) h p l z k b = absurd b
are_left us s at len n (Some was) None h p l z k b = absurd b
are_left us s at len n (Some was) (Some is) h p l z k b =
    let held = stretch_held us s h in
    let x = take n (drop at is) in
    let same = b.0 in
    let back : is ≡ over at x was = over_back at n was is (omega arith) b in
    let cut = length-take n (drop at is) in
    let rest = length-drop at is in
    let lx : length x ≡ s.count * block_len us s.dev = omega arith in (
      blocks_of us s x,
      long_frames (block_len us s.dev) s.count x (omega arith),
      frames_length (block_len us s.dev) s.count x,
      ap (units_in us) (back ∙ ap (λ i. over i x was) p) ∙ stretch_put us was x s h lx (sym k ∙ z),
    )
