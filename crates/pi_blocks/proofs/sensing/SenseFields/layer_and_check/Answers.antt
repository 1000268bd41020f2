use Rattle.std.proofs.Common.{subst, sym}
use Rattle.sense_codes.specs.Checks.{Tells}
use Rattle.sense_codes.specs.declared.Sense.{Sense}
use Rattle.pi_blocks.proofs.sensing.SenseFields.layer_and_check.Goals as goal

pub returns-clause-only : goal.returns-clause-only
returns-clause-only c layer check h = c.layer_and_check.ensures.only layer check (subst (λ (s : Sense). Tells layer check s) (sym c.sense.ensures) h)
