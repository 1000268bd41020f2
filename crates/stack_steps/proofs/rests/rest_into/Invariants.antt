use Rattle.std.proofs.Common.{◌≡◌, drop}
use Rattle.std.specs.Vec.{vec_capacity}
use Rattle.stack_laws.specs.Rests.{behind}
use Rattle.stack_steps.proofs.rests.rest_into.Given as goal

abbrev pub invariant-loop-i : goal.invariant-loop-i
invariant-loop-i g l = record {
  behind : behind (g.P.Requests.plan l.plan) l.skip (drop l.i l.bios) ≡ behind (g.P.Requests.plan l.plan) l.at l.bios;
  items : l.into.items ≡ l.initial.into.items;
  capacity : vec_capacity l.into ≡ vec_capacity l.initial.into;
}
