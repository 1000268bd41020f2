-- What is said of a result that is good.
use Rattle.std.proofs.Common.{◌≡◌, true}
use Rattle.std.specs.Prelude.{Err, IfOk, Ok, Result, is_err}

-- of one that isn't nothing is said
pub if-not : {A E : Type 0} (P : A → Type 0) (r : Result A E) → is_err r ≡ true → IfOk r P
if-not P (Ok x) e = absurd cc
if-not P (Err x) e = tt
