use Rattle.std.specs.Prelude.{ℕ, ◌≡◌, ◌≤◌, List, Option, Result, OnOk, OnErr}
use Rattle.dix_base.specs.Told.{Appended, AppendedSome, Rose}

-- A call that writes a text to a sink: answered Ok, the sink took it all and counted no fault; else it took a prefix, and counted one. The count never falls.
pub record Wrote {S T E : Type 0} (taken : S → Option (List ℕ)) (faults : S → ℕ) (text : List ℕ) (old new : S) (result : Result T E) : Type 0 where
  pub whole : OnOk result (Appended text (taken old) (taken new))
  pub part : OnErr result (AppendedSome text (taken old) (taken new))
  pub calm : OnOk result (faults new ≡ faults old)
  pub cause : OnErr result (Rose (faults old) (faults new))
  pub count : faults old ≤ faults new
