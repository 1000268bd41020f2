use Rattle.std.proofs.Common.{arith, refl, length}
use Rattle.stack_steps.proofs.Flights.{sizes, push-flight}
use Rattle.stack_steps.proofs.flight.InFlight.push.Goals as goal

pub append-requires : goal.append-requires
append-requires c = let s = sizes c.self.inside.room c.self.inside.commands.items c.self.inside.bios.items c.self.inside.fates.items c.args.self.now c.self.invariant.0 c.self.view_is in omega (arith, s)

pub append-requires-2 : goal.append-requires-2
append-requires-2 c = let s = sizes c.self.inside.room c.self.inside.commands.items c.self.inside.bios.items c.self.inside.fates.items c.args.self.now c.self.invariant.0 c.self.view_is in omega (arith, s)

pub push_reserved-requires : goal.push_reserved-requires
push_reserved-requires c = let s = sizes c.self.inside.room c.self.inside.commands.items c.self.inside.bios.items c.self.inside.fates.items c.args.self.now c.self.invariant.0 c.self.view_is in omega (arith, s)

pub invariant_of-self : goal.invariant_of-self
invariant_of-self c =
    let w = push-flight c.self.inside.room c.self.inside.commands.items c.push_reserved.new.self.items c.self.inside.bios.items c.append.new.list.items c.args.bios.now c.self.inside.fates.items c.append-2.new.list.items c.args.fates.now
    c.args.self.now (record { dev = c.args.dev; bios = length c.args.bios.now; blocks = length c.args.fates.now; first_bio = c.len-first_bio.result; first_fate = c.len-first_fate.result }) c.self.invariant.0 c.self.view_is c.requires.commands c.requires.bios c.requires.fates refl refl (omega (arith, c.len-first_bio.ensures)) (omega (arith, c.len-first_fate.ensures))
    c.push_reserved.ensures.items c.append.ensures.items c.append-2.ensures.items in
    (w.flights, (omega arith, (omega arith, omega arith)))

pub returns-clause-commands : goal.returns-clause-commands
returns-clause-commands c =
    (push-flight c.self.inside.room c.self.inside.commands.items c.push_reserved.new.self.items c.self.inside.bios.items c.append.new.list.items c.args.bios.now c.self.inside.fates.items c.append-2.new.list.items c.args.fates.now
    c.args.self.now (record { dev = c.args.dev; bios = length c.args.bios.now; blocks = length c.args.fates.now; first_bio = c.len-first_bio.result; first_fate = c.len-first_fate.result }) c.self.invariant.0 c.self.view_is c.requires.commands c.requires.bios c.requires.fates refl refl (omega (arith, c.len-first_bio.ensures)) (omega (arith, c.len-first_fate.ensures))
    c.push_reserved.ensures.items c.append.ensures.items c.append-2.ensures.items).commands
