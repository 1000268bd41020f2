-- The blocks of a bio: how many, and those of a part of it.
use Rattle.std.proofs.Common.{◌≡◌, ℕ, zero, suc, ◌+◌, ◌-◌, ◌≤◌, List, ◌∷◌, ◌++◌, take, drop, length, refl, length-drop, arith, sym, ◌∙◌, ap}
use Rattle.std.proofs.lemmas.List.{take_all, take-append-drop}
use Rattle.bio_core.specs.declared.request.Dir.{Dir}
use Rattle.bio_core.specs.Bios.{Block, blocks_from}

pub drop-blocks : (at n op k dev lba : ℕ) (dir : Dir) → at ≤ n → drop at (blocks_from op k dev lba dir n) ≡ blocks_from op (k + at) dev (lba + at) dir (n - at)
drop-blocks zero n op k dev lba dir h =
    let a : k + 0 ≡ k = omega arith in
    let b : lba + 0 ≡ lba = omega arith in
    let c : n - 0 ≡ n = omega arith in
    cc
drop-blocks (suc at) zero op k dev lba dir h = absurd (omega arith)
drop-blocks (suc at) (suc n) op k dev lba dir h =
    let a : suc k + at ≡ k + suc at = omega arith in
    let b : suc lba + at ≡ lba + suc at = omega arith in
    let c : suc n - suc at ≡ n - at = omega arith in
    cc (drop-blocks at n op (suc k) dev (suc lba) dir (omega arith))

pub take-blocks : (m n op k dev lba : ℕ) (dir : Dir) → m ≤ n → take m (blocks_from op k dev lba dir n) ≡ blocks_from op k dev lba dir m
take-blocks zero n op k dev lba dir h = refl
take-blocks (suc m) zero op k dev lba dir h = absurd (omega arith)
take-blocks (suc m) (suc n) op k dev lba dir h = ap (λ bs. record { op = op; k = k; dev = dev; lba = lba; dir = dir } ∷ bs) (take-blocks m n op (suc k) dev (suc lba) dir (omega arith))

-- the blocks of a part
part-blocks : (at m n op k dev lba : ℕ) (dir : Dir) → at + m ≤ n → blocks_from op (k + at) dev (lba + at) dir m ≡ take m (drop at (blocks_from op k dev lba dir n))
part-blocks at m n op k dev lba dir h =
    sym (take-blocks m (n - at) op (k + at) dev (lba + at) dir (omega arith)) ∙ ap (take m) (sym (drop-blocks at n op k dev lba dir (omega arith)))

pub length-blocks : (n op k dev lba : ℕ) (dir : Dir) → length (blocks_from op k dev lba dir n) ≡ n
length-blocks zero op k dev lba dir = refl
length-blocks (suc n) op k dev lba dir = ap (λ m. suc m) (length-blocks n op (suc k) dev (suc lba) dir)

-- a list is its front and what is behind it
pub halves : {A : Type 0} (n m : ℕ) (xs ys zs : List A) → length xs ≡ n + m → ys ≡ take n (drop 0 xs) → zs ≡ take m (drop n xs) → ys ++ zs ≡ xs
halves n m xs ys zs l e f =
    let a : take m (drop n xs) ≡ drop n xs = take_all m (drop n xs) (omega (arith, length-drop n xs)) in
    let b : take n xs ++ drop n xs ≡ xs = take-append-drop n xs in
    cc

pub part-is : (at m n op k dev lba i a : ℕ) (dir : Dir) → at + m ≤ n → i ≡ k + at → a ≡ lba + at → blocks_from op i dev a dir m ≡ take m (drop at (blocks_from op k dev lba dir n))
part-is at m n op k dev lba i a dir h e f = cc (part-blocks at m n op k dev lba dir h)

-- all blocks behind the first ones
pub rest-blocks : (n count op k dev lba : ℕ) (dir : Dir) (bs : List Block) → bs ≡ take (count - n) (drop n (blocks_from op k dev lba dir count)) → bs ≡ drop n (blocks_from op k dev lba dir count)
rest-blocks n count op k dev lba dir bs e =
    e ∙ take_all (count - n) (drop n (blocks_from op k dev lba dir count)) (omega (arith, length-drop n (blocks_from op k dev lba dir count), length-blocks count op k dev lba dir))
