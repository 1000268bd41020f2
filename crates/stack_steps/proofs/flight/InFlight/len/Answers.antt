use Rattle.std.proofs.Common.{arith}
use Rattle.stack_steps.proofs.Flights.{sizes}
use Rattle.stack_steps.proofs.flight.InFlight.len.Goals as goal

pub returns : goal.returns
returns c = let s = sizes c.self.inside.room c.self.inside.commands.items c.self.inside.bios.items c.self.inside.fates.items c.args.self.now c.self.invariant.0 c.self.view_is in omega (arith, s)
