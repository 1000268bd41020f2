use Rattle.std.proofs.Common.{◌≡◌, drop}
use Rattle.nvme_command.specs.Fits.{misfit}
use Rattle.nvme_command.proofs.fitting.misfit.Given as goal

abbrev pub invariant-loop-line : goal.invariant-loop-line
invariant-loop-line l = misfit l.front (drop l.line-index l.lines) ≡ misfit l.front l.lines
