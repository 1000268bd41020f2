-- A unit that gets its own blocks is as it was; a buffer that is filled whole.
use Rattle.std.proofs.Common.{List, ℕ, ◌≡◌, [], refl, ◌∷◌, zero, suc, ap, length, ◌++◌, arith, ◌∙◌, append-nil}
use Rattle.rig_api.specs.Target.{Stored}
use Rattle.rig_api.specs.Telling.{with_blocks, unit_at, at_front}
use Rattle.std.proofs.lemmas.List.{drop_all}

pub own_blocks : (us : List Stored) (dev : ℕ) → with_blocks us dev (unit_at us dev).blocks ≡ us
own_blocks [] dev = refl
own_blocks (u ∷ us) zero = refl
own_blocks (u ∷ us) (suc dev) = ap (λ (v : List Stored). u ∷ v) (own_blocks us dev)

pub fills : (xs buffer : List ℕ) → length xs ≡ length buffer → at_front xs buffer ≡ xs
fills xs buffer l = ap (λ ys. xs ++ ys) (drop_all (length xs) buffer (omega (arith, l))) ∙ append-nil xs
