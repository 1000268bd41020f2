-- What is said of a result, or of told bytes, passed on.
use Rattle.std.proofs.Common.{ℕ, List, Option, Some, None}
use Rattle.std.specs.Prelude.{Result, Ok, Err, OnOk}
use Rattle.dix_base.specs.Told.{Becomes}

pub ok_map : {X E : Type 0} (r : Result X E) (P Q : Type 0) → (P → Q) → OnOk r P → OnOk r Q
ok_map (Ok x) P Q f h = f h
ok_map (Err e) P Q f h = tt

pub becomes_map : (P Q : List ℕ → List ℕ → Type 0) → ((was is : List ℕ) → P was is → Q was is) → (a b : Option (List ℕ)) → Becomes P a b → Becomes Q a b
becomes_map P Q f None None h = tt
becomes_map P Q f None (Some b) h = absurd h
becomes_map P Q f (Some a) None h = absurd h
becomes_map P Q f (Some a) (Some b) h = f a b h
