use Rattle.std.proofs.Common.{◌≡◌, ◌≤◌, ◌+◌, ◌++◌, length, drop}
use Rattle.std.specs.Vec.{vec_capacity}
use Rattle.stack_laws.specs.Rests.{front}
use Rattle.stack_steps.proofs.rests.front_into.Given as goal

abbrev pub invariant-loop-b : goal.invariant-loop-b
invariant-loop-b g l = record {
  items : l.into.items ++ front (g.P.Requests.plan l.plan) l.left (drop l.b-index l.bios) ≡ l.initial.into.items ++ front (g.P.Requests.plan l.plan) l.n l.bios;
  length : length l.into.items ≤ length l.initial.into.items + l.b-index;
  capacity : vec_capacity l.into ≡ vec_capacity l.initial.into;
}
