use Rattle.std.specs.Prelude.{ℕ, List, Option}
use Rattle.dix_base.specs.Told.{Appended}
use Rattle.rig_api.specs.Telling.{IsShortOf}

-- The front of these bytes was appended, and at least one byte is missing.
abbrev pub AppendedShort : List ℕ → Option (List ℕ) → Option (List ℕ) → Type 0
AppendedShort whole old new = (part : List ℕ) × IsShortOf whole part × Appended part old new
