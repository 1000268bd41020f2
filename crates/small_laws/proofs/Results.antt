-- Laws of answers that the standard library lacks.
use Rattle.std.specs.Prelude.{Result, OnErr, Ok, Err}

pub on_err : {A E : Type 0} {Q : Type 0} (r : Result A E) → Q → OnErr r Q
on_err (Ok x) q = tt
on_err (Err e) q = q
