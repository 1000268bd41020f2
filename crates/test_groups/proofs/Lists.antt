-- One more bio of a list.
use Rattle.std.proofs.Common.{◌≡◌, ◌<◌, ℕ, zero, suc, ◌+◌, List, [], ◌∷◌, length, take, get_or, sym, subst, ◌∙◌, arith}
use Rattle.std.specs.List.{All}
use Rattle.bio_core.specs.declared.bio.Bio.{Bio}
use Rattle.dix_adapter.specs.Groups.{Chain, no_bio, size}

pub all-more : (P : Bio → Type 0) (xs : List Bio) (i : ℕ) → i < length xs → All P (take i xs) → P (get_or xs i no_bio) → All P (take (i + 1) xs)
all-more P [] i h a p = absurd (omega arith)
all-more P (x ∷ xs) zero h a p = λ k d l. only k d l p
  where
    only : (k : ℕ) (d : Bio) → k < 1 → P x → P (get_or (x ∷ []) k d)
    only zero d l p = p
    only (suc k) d l p = absurd (omega arith)
all-more P (x ∷ xs) (suc i) h a p =
    let s : suc i + 1 ≡ suc (i + 1) = omega arith in
    subst (λ k. All P (take k (x ∷ xs))) (sym s) (λ k d l. each k d l (a 0 x (omega arith)) (all-more P xs i (omega arith) (λ k d l. a (suc k) d (omega (arith, l))) p))
  where
    each : (k : ℕ) (d : Bio) → k < length (x ∷ take (i + 1) xs) → P x → All P (take (i + 1) xs) → P (get_or (x ∷ take (i + 1) xs) k d)
    each zero d l p q = p
    each (suc k) d l p q = q k d (omega (arith, l))

pub chain-more : (at : ℕ) (xs : List Bio) (i : ℕ) → i < length xs → Chain at (take i xs) → (get_or xs i no_bio).lba ≡ at + size (take i xs) → Chain at (take (i + 1) xs)
chain-more at [] i h c e = absurd (omega arith)
chain-more at (x ∷ xs) zero h c e = let z : at + 0 ≡ at = omega arith in (e ∙ z, tt)
chain-more at (x ∷ xs) (suc i) h c e =
    let s : suc i + 1 ≡ suc (i + 1) = omega arith in
    let z : at + (x.count + size (take i xs)) ≡ at + x.count + size (take i xs) = omega arith in
    subst (λ k. Chain at (take k (x ∷ xs))) (sym s) (c.0, chain-more (at + x.count) xs i (omega arith) c.1 (e ∙ z))
