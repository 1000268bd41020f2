use Rattle.std.proofs.Common.{◌≡◌, drop}
use Rattle.vector_runs.specs.ListText.{has_sense}
use Rattle.vector_runs.proofs.printing.has_sense.Given as goal

abbrev pub invariant-loop-i : goal.invariant-loop-i
invariant-loop-i g l = has_sense (drop l.i (g.R.Rig.state l.rig).log) ≡ has_sense (drop l.fn.from (g.R.Rig.state l.rig).log)
