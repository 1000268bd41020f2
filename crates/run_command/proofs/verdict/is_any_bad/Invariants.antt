use Rattle.std.proofs.Common.{◌≡◌, length}
use Rattle.run_command.specs.Texts.{has_bad}
use Rattle.run_command.proofs.verdict.is_any_bad.Given as goal

abbrev pub invariant-loop-reply : goal.invariant-loop-reply
invariant-loop-reply l = has_bad l.rest ≡ has_bad l.replies

abbrev pub decreases-loop-reply : goal.decreases-loop-reply
decreases-loop-reply l = length l.rest
