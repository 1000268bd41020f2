-- The blocks of a group, one by one and bio by bio.
use Rattle.std.proofs.Common.{◌≡◌, ◌<◌, ◌≤◌, ℕ, zero, suc, ◌+◌, List, [], ◌∷◌, ◌++◌, length, map, take, get_or, refl, sym, ap, ◌∙◌, arith, append_assoc, length-append}
use Rattle.std.proofs.lemmas.List.{map-append}
use Rattle.bio_core.specs.declared.bio.Bio.{Bio}
use Rattle.bio_core.specs.declared.request.Dir.{Dir}
use Rattle.bio_core.specs.Bios.{blocks_from, blocks_of}
use Rattle.fault_schedule.specs.declared.Label.{Label}
use Rattle.dix_adapter.specs.Groups.{blocks_in, label_of, size}

-- one block more
pub blocks-more : (op k dev lba : ℕ) (dir : Dir) (n : ℕ) → blocks_from op k dev lba dir (n + 1) ≡ blocks_from op k dev lba dir n ++ (record { op = op; k = k + n; dev = dev; lba = lba + n; dir = dir } ∷ [])
blocks-more op k dev lba dir zero = let a : k + 0 ≡ k = omega arith in let b : lba + 0 ≡ lba = omega arith in rw (a, b) refl
blocks-more op k dev lba dir (suc n) =
    let s : suc n + 1 ≡ suc (n + 1) = omega arith in
    let a : suc k + n ≡ k + suc n = omega arith in
    let b : suc lba + n ≡ lba + suc n = omega arith in
    let r = blocks-more op (suc k) dev (suc lba) dir n in
    rw s (ap (λ z. record { op = op; k = k; dev = dev; lba = lba; dir = dir } ∷ z) (rw (a, b) at r))

pub length-blocks : (op k dev lba : ℕ) (dir : Dir) (n : ℕ) → length (blocks_from op k dev lba dir n) ≡ n
length-blocks op k dev lba dir zero = refl
length-blocks op k dev lba dir (suc n) = ap suc (length-blocks op (suc k) dev (suc lba) dir n)

pub length-in : (req : List Bio) → length (blocks_in req) ≡ size req
length-in [] = refl
length-in (b ∷ bs) = length-append (blocks_of b) (blocks_in bs) ∙ (let e = length-in bs in let f = length-blocks b.op b.k b.dev b.lba b.dir b.count in omega arith)

-- one bio more
pub bios-more : (req : List Bio) (i : ℕ) (d : Bio) → i < length req → blocks_in (take (i + 1) req) ≡ blocks_in (take i req) ++ blocks_of (get_or req i d)
bios-more [] i d h = absurd (omega arith)
bios-more (b ∷ bs) zero d h = append-nil' (blocks_of b)
  where
    append-nil' : {A : Type 0} (xs : List A) → xs ++ [] ≡ xs
    append-nil' [] = refl
    append-nil' (x ∷ xs) = ap (λ z. x ∷ z) (append-nil' xs)
bios-more (b ∷ bs) (suc i) d h =
    let s : suc i + 1 ≡ suc (i + 1) = omega arith in
    rw s (ap (λ z. blocks_of b ++ z) (bios-more bs i d (omega arith)) ∙ sym (append_assoc (blocks_of b) (blocks_in (take i bs)) (blocks_of (get_or bs i d))))

pub size-more : (req : List Bio) (i : ℕ) (d : Bio) → i < length req → size (take (i + 1) req) ≡ size (take i req) + (get_or req i d).count
size-more [] i d h = absurd (omega arith)
size-more (b ∷ bs) zero d h = omega arith
size-more (b ∷ bs) (suc i) d h = let s : suc i + 1 ≡ suc (i + 1) = omega arith in let e = size-more bs i d (omega arith) in rw s (omega arith)

pub size-front : (req : List Bio) (i : ℕ) → size (take i req) ≤ size req
size-front [] zero = omega arith
size-front [] (suc i) = omega arith
size-front (b ∷ bs) zero = omega arith
size-front (b ∷ bs) (suc i) = let e = size-front bs i in omega arith

-- their labels
pub labels-more : (op k dev lba : ℕ) (dir : Dir) (n : ℕ) (ls : List Label) → ls ++ map label_of (blocks_from op k dev lba dir (n + 1)) ≡ (ls ++ map label_of (blocks_from op k dev lba dir n)) ++ (record { op = op; k = k + n } ∷ [])
labels-more op k dev lba dir n ls =
    ap (λ z. ls ++ map label_of z) (blocks-more op k dev lba dir n)
    ∙ ap (λ z. ls ++ z) (map-append label_of (blocks_from op k dev lba dir n) _)
    ∙ sym (append_assoc ls (map label_of (blocks_from op k dev lba dir n)) _)
