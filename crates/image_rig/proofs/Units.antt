-- Where the units of an image and their blocks lie, and what becomes of them as bytes change.
use Rattle.std.proofs.Common.{◌≡◌, ℕ, zero, suc, ◌+◌, ◌-◌, ◌*◌, ◌<◌, ◌≤◌, true, List, [], ◌∷◌, ◌++◌, length, get_or, set, take, drop, refl, sym, ap, ◌∙◌, arith, rules}
use Rattle.std.proofs.lemmas.List.{places, same_lists, take-take, drop-take, drop-drop, length-drop, take_at, drop_at}
use Rattle.dix_base.specs.Told.{over}
use Rattle.rig_api.specs.Frames.{frames_of, stored_size}
use Rattle.rig_api.specs.Headers.{all_bytes, bytes_of, image_size}
use Rattle.rig_api.specs.Image.{unit_from, units_from, units_in}
use Rattle.rig_api.specs.Target.{Stored}
use Rattle.rig_api.specs.declared.units.UnitSpec.{UnitSpec}
use Rattle.rig_api.specs.Telling.{block_at, has_address, holding, no_spec, no_unit, with_block}
use Rattle.image_rig.specs.LayoutPlaces.{block_len, block_place}

pub frames_front : (len n : ℕ) (a b : List ℕ) → take (n * len) a ≡ take (n * len) b → frames_of len n a ≡ frames_of len n b
frames_front len zero a b h = refl
frames_front len (suc n) a b h =
    let e : suc n * len ≡ len + n * len = omega arith in
    let h₁ : take (len + n * len) a ≡ take (len + n * len) b = ap (λ k. take k a) (sym e) ∙ (h ∙ ap (λ k. take k b) e) in
    let f : take len a ≡ take len b = sym (take-take len (len + n * len) a (omega arith)) ∙ ap (take len) h₁ ∙ take-take len (len + n * len) b (omega arith) in
    let g : take (n * len) (drop len a) ≡ take (n * len) (drop len b) = sym (drop-take len (n * len) a) ∙ ap (drop len) h₁ ∙ drop-take len (n * len) b in
    ap (λ v. v ∷ frames_of len n (drop len a)) f ∙ ap (λ v. take len b ∷ v) (frames_front len n (drop len a) (drop len b) g)

pub frame_at : (len n k : ℕ) (b : List ℕ) → k < n → get_or (frames_of len n b) k [] ≡ take len (drop (k * len) b)
frame_at len zero k b h = absurd (omega arith)
frame_at len (suc n) zero b h = let z : 0 * len ≡ 0 = omega arith in rw z refl
frame_at len (suc n) (suc k) b h =
    let e : len + k * len ≡ suc k * len = omega arith in
    frame_at len n k (drop len b) (omega arith) ∙ ap (take len) (drop-drop (k * len) len b ∙ ap (λ j. drop j b) e)

take_over : (m q : ℕ) (x b : List ℕ) → m + q ≤ length b → take m (over (m + q) x b) ≡ take m b
take_over m q x b h = same_lists _ _ (search (rules, places)) (λ i d l. grind (arith, places))

pub drop_over : (m q : ℕ) (x b : List ℕ) → m + q + length x ≤ length b → drop m (over (m + q) x b) ≡ over q x (drop m b)
drop_over m q x b h = same_lists _ _ (search (rules, places)) (λ i d l. grind (arith, places))

pub behind_over : (m q n : ℕ) (x b : List ℕ) → q + length x ≤ n → m + n ≤ length b → drop (m + n) (over (m + q) x b) ≡ drop (m + n) b
behind_over m q n x b h l = same_lists _ _ (search (rules, places)) (λ i d o. grind (arith, places))

pub front_over : (m q : ℕ) (x b : List ℕ) → m + q + length x ≤ length b → take m (over (m + q) x b) ≡ take m b
front_over m q x b h = take_over m q x b (omega arith)

pub block_within : (k n len : ℕ) → k < n → k * len + len ≤ n * len
block_within zero zero len h = absurd (omega arith)
block_within (suc k) zero len h = absurd (omega arith)
block_within zero (suc n) len h = let a : suc n * len ≡ n * len + len = omega arith in let z : 0 * len ≡ 0 = omega arith in omega arith
block_within (suc k) (suc n) len h = let a : suc n * len ≡ n * len + len = omega arith in let c : suc k * len ≡ k * len + len = omega arith in let i = block_within k n len (omega arith) in omega arith

-- a block in another's place
pub frames_over : (len n k : ℕ) (x b : List ℕ) → k < n → length x ≡ len → n * len ≤ length b → frames_of len n (over (k * len) x b) ≡ set (frames_of len n b) k x
frames_over len zero k x b h e l = absurd (omega arith)
frames_over len (suc n) zero x b h e l =
    let z : 0 * len ≡ 0 = omega arith in
    let o : over (0 * len) x b ≡ x ++ drop len b = ap (λ k. over k x b) z ∙ ap (λ j. x ++ drop j b) (let y : 0 + length x ≡ len = omega arith in y) in
    let f : take len (over (0 * len) x b) ≡ x = ap (take len) o ∙ take_at x (drop len b) len e in
    let g : drop len (over (0 * len) x b) ≡ drop len b = ap (drop len) o ∙ drop_at x (drop len b) len e in
    ap (λ v. v ∷ frames_of len n (drop len (over (0 * len) x b))) f ∙ ap (λ v. x ∷ frames_of len n v) g
frames_over len (suc n) (suc k) x b h e l =
    let p : suc k * len ≡ len + k * len = omega arith in
    let s : suc n * len ≡ len + n * len = omega arith in
    let r : k * len + len ≤ n * len = block_within k n len (omega arith) in
    let lb = length-drop len b in
    ap (λ j. frames_of len (suc n) (over j x b)) p
    ∙ ap (λ v. v ∷ frames_of len n (drop len (over (len + k * len) x b))) (front_over len (k * len) x b (omega arith))
    ∙ ap (λ v. take len b ∷ frames_of len n v) (drop_over len (k * len) x b (omega arith))
    ∙ ap (λ v. take len b ∷ v) (frames_over len n k x (drop len b) (omega arith) e (omega arith))

-- ---- units

unit_front : (u : UnitSpec) (a b : List ℕ) → take (bytes_of u) a ≡ take (bytes_of u) b → unit_from u a ≡ unit_from u b
unit_front u a b h = ap (λ f. record { ty = u.ty; size = u.size; first = u.first; blocks = f }) (frames_front (stored_size u.ty u.size) u.blocks a b h)

pub unit_found : (us : List UnitSpec) (b : List ℕ) (dev : ℕ) → dev < length us → get_or (units_from us b) dev no_unit ≡ unit_from (get_or us dev no_spec) (drop (all_bytes (take dev us)) b)
unit_found [] b dev h = absurd (omega arith)
unit_found (u ∷ us) b zero h = refl
unit_found (u ∷ us) b (suc dev) h =
    unit_found us (drop (bytes_of u) b) dev (omega arith) ∙ ap (unit_from (get_or us dev no_spec)) (drop-drop (all_bytes (take dev us)) (bytes_of u) b)

-- one unit is another, and all bytes outside of it are as before
pub units_change : (us : List UnitSpec) (a b : List ℕ) (dev : ℕ) (x : Stored) → dev < length us → take (all_bytes (take dev us)) b ≡ take (all_bytes (take dev us)) a →
    drop (all_bytes (take dev us) + bytes_of (get_or us dev no_spec)) b ≡ drop (all_bytes (take dev us) + bytes_of (get_or us dev no_spec)) a →
    unit_from (get_or us dev no_spec) (drop (all_bytes (take dev us)) b) ≡ x → units_from us b ≡ set (units_from us a) dev x
units_change [] a b dev x h f t e = absurd (omega arith)
units_change (u ∷ us) a b zero x h f t e =
    let z : 0 + bytes_of u ≡ bytes_of u = omega arith in
    let t₁ : drop (bytes_of u) b ≡ drop (bytes_of u) a = ap (λ k. drop k b) (sym z) ∙ (t ∙ ap (λ k. drop k a) z) in
    ap (λ v. unit_from u b ∷ units_from us v) t₁ ∙ ap (λ v. v ∷ units_from us (drop (bytes_of u) a)) e
units_change (u ∷ us) a b (suc dev) x h f t e =
    let k = bytes_of u in
    let p = all_bytes (take dev us) in
    let n = bytes_of (get_or us dev no_spec) in
    let same : take k b ≡ take k a = sym (take-take k (k + p) b (omega arith)) ∙ ap (take k) f ∙ take-take k (k + p) a (omega arith) in
    let f₁ : take p (drop k b) ≡ take p (drop k a) = sym (drop-take k p b) ∙ ap (drop k) f ∙ drop-take k p a in
    let j : k + (p + n) ≡ k + p + n = omega arith in
    let t₁ : drop (p + n) (drop k b) ≡ drop (p + n) (drop k a) = drop-drop (p + n) k b ∙ ap (λ i. drop i b) j ∙ t ∙ ap (λ i. drop i a) (sym j) ∙ sym (drop-drop (p + n) k a) in
    ap (λ v. v ∷ units_from us (drop k b)) (unit_front u b a same)
    ∙ ap (λ v. unit_from u a ∷ v) (units_change us (drop k a) (drop k b) dev x (omega arith) f₁ t₁ (ap (unit_from (get_or us dev no_spec)) (drop-drop p k b) ∙ e))

pub bytes_within : (us : List UnitSpec) (dev : ℕ) → dev < length us → all_bytes (take dev us) + bytes_of (get_or us dev no_spec) ≤ all_bytes us
bytes_within [] dev h = absurd (omega arith)
bytes_within (u ∷ us) zero h = omega arith
bytes_within (u ∷ us) (suc dev) h = let e = bytes_within us dev (omega arith) in omega arith

-- where the block at an address of a unit begins
pub record Address (us : List UnitSpec) (dev lba : ℕ) : Type 0 where
  pub device : dev < length us
  pub first : (get_or us dev no_spec).first ≤ lba
  pub last : lba - (get_or us dev no_spec).first < (get_or us dev no_spec).blocks

inside : (u : UnitSpec) (lba : ℕ) → has_address u lba ≡ true → (u.first ≤ lba) × (lba - u.first < u.blocks)
inside u lba h = grind arith

pub addressed : (us : List UnitSpec) (dev lba : ℕ) → dev < length us → has_address (get_or us dev no_spec) lba ≡ true → Address us dev lba
addressed us dev lba h a = let i = inside (get_or us dev no_spec) lba a in record { device = h; first = i.0; last = i.1 }

-- such a block lies in the image
pub block_held : (us : List UnitSpec) (dev lba : ℕ) → Address us dev lba → block_place us dev lba + block_len us dev ≤ image_size us
block_held us dev lba a =
    let u = get_or us dev no_spec in
    let w = bytes_within us dev a.device in
    let b = block_within (lba - u.first) u.blocks (block_len us dev) a.last in
    omega arith

-- the stored block at an address, as bytes of the image
pub block_found : (us : List UnitSpec) (was : List ℕ) (dev lba : ℕ) → Address us dev lba →
    block_at (units_in us was) dev lba ≡ take (stored_size (get_or us dev no_spec).ty (get_or us dev no_spec).size) (drop (block_place us dev lba) was)
block_found us was dev lba a =
    let u = get_or us dev no_spec in
    let p = all_bytes (take dev us) in
    let k = lba - u.first in
    let len = stored_size u.ty u.size in
    let f = unit_found us (drop 512 was) dev a.device in
    let e : k * len + (512 + p) ≡ 512 + p + k * len = omega arith in
    let j : p + k * len + 512 ≡ 512 + p + k * len = omega arith in
    ap (λ (v : Stored). get_or v.blocks (lba - v.first) []) f
    ∙ frame_at len u.blocks k (drop p (drop 512 was)) a.last
    ∙ ap (take len) (drop-drop (k * len) p (drop 512 was) ∙ drop-drop (p + k * len) 512 was ∙ ap (λ i. drop i was) (omega arith))

-- another block at an address
pub block_changed : (us : List UnitSpec) (was x : List ℕ) (dev lba : ℕ) → Address us dev lba → length x ≡ stored_size (get_or us dev no_spec).ty (get_or us dev no_spec).size → length was ≡ image_size us →
    units_in us (over (block_place us dev lba) x was) ≡ with_block (units_in us was) dev lba x
block_changed us was x dev lba a lx lw =
    let u = get_or us dev no_spec in
    let p = all_bytes (take dev us) in
    let k = lba - u.first in
    let len = stored_size u.ty u.size in
    let n = bytes_of u in
    let q = k * len in
    let b = drop 512 was in
    let lb = length-drop 512 was in
    let w = bytes_within us dev a.device in
    let r : q + len ≤ n = block_within k u.blocks len a.last in
    let place : block_place us dev lba ≡ 512 + (p + q) = omega arith in
    let is : drop 512 (over (block_place us dev lba) x was) ≡ over (p + q) x b = ap (λ i. drop 512 (over i x was)) place ∙ drop_over 512 (p + q) x was (omega arith) in
    let blocks : frames_of len u.blocks (drop p (over (p + q) x b)) ≡ set (frames_of len u.blocks (drop p b)) k x =
    ap (frames_of len u.blocks) (drop_over p q x b (omega arith)) ∙ frames_over len u.blocks k x (drop p b) a.last lx (let l = length-drop p b in omega arith) in
    let unit : unit_from u (drop p (over (p + q) x b)) ≡ holding (unit_from u (drop p b)) (set (unit_from u (drop p b)).blocks k x) = ap (λ f. record { ty = u.ty; size = u.size; first = u.first; blocks = f }) blocks in
    let f = unit_found us b dev a.device in
    ap (units_from us) is
    ∙ units_change us b (over (p + q) x b) dev (holding (unit_from u (drop p b)) (set (unit_from u (drop p b)).blocks k x)) a.device (front_over p q x b (omega arith)) (behind_over p q n x b (omega arith) (omega arith)) unit
    ∙ ap (λ (v : Stored). set (units_from us b) dev (holding v (set v.blocks (lba - v.first) x))) (sym f)
