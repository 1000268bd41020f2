use Rattle.std.proofs.Common.{◌≡◌, drop}
use Rattle.vector_runs.specs.Ranges.{out_of_range}
use Rattle.vector_runs.proofs.range.out_of_range.Given as goal

abbrev pub invariant-loop-line : goal.invariant-loop-line
invariant-loop-line g l = out_of_range (g.R.Rig.state l.rig).standing.devices (drop l.line-index l.lines) ≡ out_of_range (g.R.Rig.state l.rig).standing.devices l.lines
