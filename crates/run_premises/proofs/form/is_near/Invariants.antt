use Rattle.std.proofs.Common.{◌≡◌, length}
use Rattle.run_premises.specs.Forms.{is_near}
use Rattle.run_premises.proofs.form.is_near.Given as goal

abbrev pub invariant-loop-rest : goal.invariant-loop-rest
invariant-loop-rest l = is_near l.rest ≡ is_near l.mask

abbrev pub decreases-loop-rest : goal.decreases-loop-rest
decreases-loop-rest l = length l.rest
