use Rattle.std.proofs.Common.{◌≡◌}
use Rattle.std.specs.Vec.{vec_capacity}
use Rattle.stack_steps.specs.Flights.{earlier}
use Rattle.stack_steps.proofs.flight.begin_earlier.Given as goal

abbrev pub invariant-loop-k : goal.invariant-loop-k
invariant-loop-k l = record {
  items : l.commands.items ≡ earlier l.from l.k l.bios l.fates l.initial.commands.items;
  capacity : vec_capacity l.commands ≡ vec_capacity l.initial.commands;
}
