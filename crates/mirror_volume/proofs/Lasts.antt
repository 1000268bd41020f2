-- What the last reply says.
use Rattle.std.proofs.Common.{ℕ, zero, suc, ◌≡◌, List, [], ◌∷◌, length, get_or, ap, subst, sym, arith}
use Rattle.stack_ops.specs.declared.reply.Reply.{Reply}
use Rattle.mirror_volume.specs.LegRuns.{Fits, LastFits, found_by, found_in}

pub found-by-last : (n : ℕ) (xs : List Reply) (i : ℕ) (x : Reply) → length xs ≡ suc i → x ≡ get_or xs i x → found_by n xs ≡ found_in n x
found-by-last n [] i x l e = absurd (omega (arith, l))
found-by-last n (y ∷ []) zero x l e = ap (found_in n) (sym e)
found-by-last n (y ∷ []) (suc i) x l e = absurd (omega (arith, l))
found-by-last n (y ∷ z ∷ xs) zero x l e = absurd (omega (arith, l))
found-by-last n (y ∷ z ∷ xs) (suc i) x l e = found-by-last n (z ∷ xs) i x (omega (arith, l)) e

pub fits-last : (n : ℕ) (xs : List Reply) (i : ℕ) (x : Reply) → length xs ≡ suc i → x ≡ get_or xs i x → LastFits xs n → Fits n x
fits-last n [] i x l e h = absurd (omega (arith, l))
fits-last n (y ∷ []) zero x l e h = subst (Fits n) (sym e) h
fits-last n (y ∷ []) (suc i) x l e h = absurd (omega (arith, l))
fits-last n (y ∷ z ∷ xs) zero x l e h = absurd (omega (arith, l))
fits-last n (y ∷ z ∷ xs) (suc i) x l e h = fits-last n (z ∷ xs) i x (omega (arith, l)) e h
