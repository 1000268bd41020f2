-- Blocks put in others' places one after another, in a unit and among all.
use Rattle.std.proofs.Common.{◌≡◌, ◌<◌, ◌≤◌, ℕ, zero, suc, ◌+◌, ◌-◌, List, [], ◌∷◌, ◌++◌, length, take, drop, set, get_or, refl, ap, sym, ◌∙◌, arith}
use Rattle.std.proofs.lemmas.List.{length-set, set-append_left, set-append_right}
use Rattle.rig_api.specs.Passed.{placed, Stored, shape_of}
use Rattle.rig_api.specs.Telling.{unit_at, with_blocks}
use Rattle.dix_adapter.specs.Ways.{blocks_told, cell_in, shapes_of}

-- from this index on
abbrev pub puts : {X : Type 0} → ℕ → List X → List X → List X
puts at [] xs = xs
puts at (y ∷ ys) xs = puts (suc at) ys (set xs at y)

puts-behind-one : {X : Type 0} (at : ℕ) (ys xs : List X) (x : X) → puts (suc at) ys (x ∷ xs) ≡ x ∷ puts at ys xs
puts-behind-one at [] xs x = refl
puts-behind-one at (y ∷ ys) xs x = puts-behind-one (suc at) ys (set xs at y) x

pub puts-long : {X : Type 0} (at : ℕ) (ys xs : List X) → length (puts at ys xs) ≡ length xs
puts-long at [] xs = refl
puts-long at (y ∷ ys) xs = puts-long (suc at) ys (set xs at y) ∙ length-set xs at y

pub placed-puts : (at : ℕ) (ys xs : List (List ℕ)) → at + length ys ≤ length xs → placed at ys xs ≡ puts at ys xs
placed-puts zero [] xs h = refl
placed-puts zero (y ∷ ys) [] h = absurd (omega arith)
placed-puts zero (y ∷ ys) (x ∷ xs) h =
    let a : 0 + suc (length ys) ≡ suc (0 + length ys) = omega arith in
    ap (λ k. y ∷ (ys ++ drop k (x ∷ xs))) a ∙ ap (λ z. y ∷ z) (placed-puts zero ys xs (omega arith)) ∙ sym (puts-behind-one zero ys xs y)
placed-puts (suc at) [] [] h = absurd (omega arith)
placed-puts (suc at) (y ∷ ys) [] h = absurd (omega arith)
placed-puts (suc at) [] (x ∷ xs) h =
    let a : suc at + 0 ≡ suc (at + 0) = omega arith in
    ap (λ k. x ∷ (take at xs ++ drop k (x ∷ xs))) a ∙ ap (λ z. x ∷ z) (placed-puts at [] xs (omega arith))
placed-puts (suc at) (y ∷ ys) (x ∷ xs) h =
    let a : suc at + suc (length ys) ≡ suc (at + suc (length ys)) = omega arith in
    ap (λ k. x ∷ (take at xs ++ ((y ∷ ys) ++ drop k (x ∷ xs)))) a ∙ ap (λ z. x ∷ z) (placed-puts at (y ∷ ys) xs (omega arith)) ∙ sym (puts-behind-one at (y ∷ ys) xs x)

-- one more, behind those
pub puts-more : {X : Type 0} (at : ℕ) (ys xs : List X) (y : X) → puts at (ys ++ (y ∷ [])) xs ≡ set (puts at ys xs) (at + length ys) y
puts-more at [] xs y = let z : at ≡ at + 0 = omega arith in ap (λ k. set xs k y) z
puts-more at (w ∷ ys) xs y = let z : suc at + length ys ≡ at + suc (length ys) = omega arith in puts-more (suc at) ys (set xs at w) y ∙ ap (λ k. set (puts (suc at) ys (set xs at w)) k y) z

-- in a list in front of another, and behind one
puts-front : {X : Type 0} (at : ℕ) (ys xs zs : List X) → at + length ys ≤ length xs → puts at ys (xs ++ zs) ≡ puts at ys xs ++ zs
puts-front at [] xs zs h = refl
puts-front at (y ∷ ys) xs zs h =
    let l = length-set xs at y in
    ap (puts (suc at) ys) (set-append_left xs zs at y (omega arith)) ∙ puts-front (suc at) ys (set xs at y) zs (omega arith)

puts-back : {X : Type 0} (at n : ℕ) (ys xs zs : List X) → length xs ≡ n → puts (n + at) ys (xs ++ zs) ≡ xs ++ puts at ys zs
puts-back at n [] xs zs e = refl
puts-back at n (y ∷ ys) xs zs e =
    let m : n + at - n ≡ at = omega arith in
    let s : suc (n + at) ≡ n + suc at = omega arith in
    ap (puts (suc (n + at)) ys) (set-append_right xs zs n (n + at) y e (omega arith) ∙ ap (λ k. xs ++ set zs k y) m)
    ∙ ap (λ k. puts k ys (xs ++ set zs at y)) s ∙ puts-back (suc at) n ys xs (set zs at y) e

-- ---- in a unit

abbrev pub before : List Stored → ℕ → ℕ
before [] dev = 0
before (u ∷ us) zero = 0
before (u ∷ us) (suc dev) = length u.blocks + before us dev

pub told-puts : (us : List Stored) (dev at : ℕ) (ys : List (List ℕ)) → dev < length us → at + length ys ≤ length (unit_at us dev).blocks →
    blocks_told (with_blocks us dev (puts at ys (unit_at us dev).blocks)) ≡ puts (before us dev + at) ys (blocks_told us)
told-puts [] dev at ys l h = absurd (omega arith)
told-puts (u ∷ us) zero at ys l h = let z : at ≡ 0 + at = omega arith in sym (puts-front at ys u.blocks (blocks_told us) h) ∙ ap (λ k. puts k ys (u.blocks ++ blocks_told us)) z
told-puts (u ∷ us) (suc dev) at ys l h =
    let s : length u.blocks + before us dev + at ≡ length u.blocks + (before us dev + at) = omega arith in
    ap (λ z. u.blocks ++ z) (told-puts us dev at ys (omega arith) h)
    ∙ sym (ap (λ k. puts k ys (u.blocks ++ blocks_told us)) s ∙ puts-back (before us dev + at) (length u.blocks) ys u.blocks (blocks_told us) refl)

pub told-shapes : (us : List Stored) (dev : ℕ) (blocks : List (List ℕ)) → length blocks ≡ length (unit_at us dev).blocks → shapes_of (with_blocks us dev blocks) ≡ shapes_of us
told-shapes [] dev blocks e = refl
told-shapes (u ∷ us) zero blocks e = ap (λ n. (record { ty = u.ty; blocks = n; size = u.size; first = u.first }) ∷ shapes_of us) e
told-shapes (u ∷ us) (suc dev) blocks e = ap (λ z. shape_of u ∷ z) (told-shapes us dev blocks e)

-- the cell of an address
pub cell-is : (us : List Stored) (dev lba : ℕ) → dev < length us → cell_in (shapes_of us) dev lba ≡ before us dev + (lba - (unit_at us dev).first)
cell-is [] dev lba l = absurd (omega arith)
cell-is (u ∷ us) zero lba l = omega arith
cell-is (u ∷ us) (suc dev) lba l = let e = cell-is us dev lba (omega arith) in omega arith

pub told-at : (us : List Stored) (dev i : ℕ) → dev < length us → i < length (unit_at us dev).blocks → get_or (blocks_told us) (before us dev + i) [] ≡ get_or (unit_at us dev).blocks i []
told-at [] dev i l h = absurd (omega arith)
told-at (u ∷ us) zero i l h = let z : 0 + i ≡ i = omega arith in ap (λ k. get_or (u.blocks ++ blocks_told us) k []) z ∙ in-front u.blocks (blocks_told us) i h
  where
    in-front : (xs ys : List (List ℕ)) (i : ℕ) → i < length xs → get_or (xs ++ ys) i [] ≡ get_or xs i []
    in-front [] ys i h = absurd (omega arith)
    in-front (x ∷ xs) ys zero h = refl
    in-front (x ∷ xs) ys (suc i) h = in-front xs ys i (omega arith)
told-at (u ∷ us) (suc dev) i l h = let s : length u.blocks + before us dev + i ≡ length u.blocks + (before us dev + i) = omega arith in ap (λ k. get_or (u.blocks ++ blocks_told us) k []) s ∙ behind u.blocks (blocks_told us) (before us dev + i) ∙ told-at us dev i (omega arith) h
  where
    behind : (xs ys : List (List ℕ)) (i : ℕ) → get_or (xs ++ ys) (length xs + i) [] ≡ get_or ys i []
    behind [] ys i = let z : 0 + i ≡ i = omega arith in ap (λ k. get_or ys k []) z
    behind (x ∷ xs) ys i = let s : suc (length xs) + i ≡ suc (length xs + i) = omega arith in ap (λ k. get_or (x ∷ (xs ++ ys)) k []) s ∙ behind xs ys i
