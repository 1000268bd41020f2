use Rattle.std.proofs.Common.{◌≡◌, take}
use Rattle.stack_laws.specs.Runs.{blocks_of_requests}
use Rattle.stack_steps.proofs.start.count_blocks.Given as goal

abbrev pub invariant-loop-i : goal.invariant-loop-i
invariant-loop-i g l = l.count ≡ blocks_of_requests (take l.i (g.P.Requests.plan l.plan).requests)
