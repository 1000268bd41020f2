-- Where no line says that the medium fails, it fails no block.
use Rattle.std.proofs.Common.{List, [], ◌∷◌, ◌≡◌, false, refl}
use Rattle.fault_schedule.specs.declared.Label.{Label}
use Rattle.fault_schedule.specs.declared.fault.FaultLine.{FaultLine}
use Rattle.fault_schedule.specs.Altered.{fails_of, has_fail, is_fail}
use Rattle.std.proofs.lemmas.Bool.{or_parts}

pub unfailing : (lines : List FaultLine) → has_fail lines ≡ false → (label : Label) → fails_of lines label ≡ false
unfailing [] h label = refl
unfailing (line ∷ lines) h label =
    let parts = or_parts (is_fail line.kind) (has_fail lines) h in
    rw (parts.0) (unfailing lines parts.1 label)
