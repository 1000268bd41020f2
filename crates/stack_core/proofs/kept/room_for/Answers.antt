use Rattle.std.proofs.Common.{refl, rules}
use Rattle.stack_core.proofs.kept.room_for.Goals as goal

pub returns-in_ok-with_capacity-in-Show-clause-suits : goal.returns-in_ok-with_capacity-in-Show-clause-suits
returns-in_ok-with_capacity-in-Show-clause-suits c = rw c.in-Show.is ((c.in_ok-with_capacity-in-Show.field-0, refl), search rules)
