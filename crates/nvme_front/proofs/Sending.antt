-- An exchange out of one buffer.
use Rattle.std.proofs.Common.{◌≡◌, ℕ, ◌+◌, ◌≤◌, Bool, true, false, List, [], length, take, drop, refl, subst, arith}
use Rattle.std.proofs.lemmas.List.{length-drop, length-take-le}
use Rattle.rig_api.specs.declared.rig.Outcome.{Outcome}
use Rattle.rig_api.specs.State.{Exchanged, RigState}

pub with-lists : (dev : ℕ) (cdb out out' before before' came came' : List ℕ) (o : Outcome) (old new : RigState) → out ≡ out' → before ≡ before' → came ≡ came' → Exchanged old new dev cdb [] out before came o → Exchanged old new dev cdb [] out' before' came' o
with-lists dev cdb out out' before before' came came' o old new e f h x =
    subst (λ z. Exchanged old new dev cdb [] out' before' z o) h (subst (λ z. Exchanged old new dev cdb [] out' z came o) f (subst (λ z. Exchanged old new dev cdb [] z before came o) e x))

-- a part of a buffer
pub part-long : (at n : ℕ) (xs : List ℕ) → at + n ≤ length xs → length (take n (drop at xs)) ≡ n
part-long at n xs h = let d = length-drop at xs in length-take-le n (drop at xs) (omega (arith, d, h))

-- one of the two is nothing
pub space : (b : Bool) (s r m : ℕ) → (b ≡ true → r ≡ 0) → (b ≡ false → s ≡ 0) → s ≤ m → r ≤ m → s + r ≤ m
space true s r m p q h k = let e = p refl in omega arith
space false s r m p q h k = let e = q refl in omega arith
