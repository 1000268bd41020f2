use Rattle.std.proofs.Common.{refl}
use Rattle.stack_core.proofs.kept.room_for_bad.Goals as goal

pub returns-clause-blocks : goal.returns-clause-blocks
returns-clause-blocks c = (c.in_ok-with_capacity.field-0, refl)
