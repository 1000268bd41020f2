-- A command that is taken out of those in flight.
use Rattle.std.proofs.Common.{arith, ap, ◌∙◌, ◌++◌, sym}
use Rattle.stack_laws.specs.View.{Command}
use Rattle.stack_steps.proofs.Flights.{sizes, stands, take-flight}
use Rattle.stack_steps.proofs.flight.InFlight.take.Goals as goal

pub index-command-requires : goal.index-command-requires
index-command-requires c = let s = sizes _ _ _ _ _ c.self.invariant.0 c.self.view_is in omega (arith, s)

pub take_out-requires-clause-within : goal.take_out-requires-clause-within
take_out-requires-clause-within c =
    let s = sizes _ _ _ _ _ c.self.invariant.0 c.self.view_is in
    let t = stands _ _ _ _ _ c.args.i c.index-command.result.now c.self.invariant.0 c.self.view_is (omega (arith, s)) c.index-command.ensures in
    omega (arith, t.bios)

pub take_out-requires-clause-room : goal.take_out-requires-clause-room
take_out-requires-clause-room c =
    let s = sizes _ _ _ _ _ c.self.invariant.0 c.self.view_is in
    let t = stands _ _ _ _ _ c.args.i c.index-command.result.now c.self.invariant.0 c.self.view_is (omega (arith, s)) c.index-command.ensures in
    omega (arith, t.bios_length)

pub take_out-requires-2-clause-within : goal.take_out-requires-2-clause-within
take_out-requires-2-clause-within c =
    let s = sizes _ _ _ _ _ c.self.invariant.0 c.self.view_is in
    let t = stands _ _ _ _ _ c.args.i c.index-command.result.now c.self.invariant.0 c.self.view_is (omega (arith, s)) c.index-command.ensures in
    omega (arith, t.fates)

pub take_out-requires-2-clause-room : goal.take_out-requires-2-clause-room
take_out-requires-2-clause-room c =
    let s = sizes _ _ _ _ _ c.self.invariant.0 c.self.view_is in
    let t = stands _ _ _ _ _ c.args.i c.index-command.result.now c.self.invariant.0 c.self.view_is (omega (arith, s)) c.index-command.ensures in
    omega (arith, t.fates_length)

pub remove-gone-requires : goal.remove-gone-requires
remove-gone-requires c = let s = sizes _ _ _ _ _ c.self.invariant.0 c.self.view_is in omega (arith, s)

pub invariant_of-self : goal.invariant_of-self
invariant_of-self c =
    let s = sizes _ _ _ _ _ c.self.invariant.0 c.self.view_is in
    let w = take-flight _ _ _ _ _ _ _ _ _ c.args.i c.index-command.result.now c.self.invariant.0 c.self.view_is (omega (arith, s)) c.index-command.ensures c.remove-gone.ensures.items c.begin_earlier.ensures.items c.take_out.ensures.items c.take_out-2.ensures.items in
    (w.flights, (omega arith, (omega arith, omega arith)))

pub returns-clause-dev : goal.returns-clause-dev
returns-clause-dev c =
    let s = sizes _ _ _ _ _ c.self.invariant.0 c.self.view_is in
    let t = stands _ _ _ _ _ c.args.i c.index-command.result.now c.self.invariant.0 c.self.view_is (omega (arith, s)) c.index-command.ensures in
    ap (λ (z : Command). z.dev) (sym t.command)

pub returns-clause-commands : goal.returns-clause-commands
returns-clause-commands c =
    let s = sizes _ _ _ _ _ c.self.invariant.0 c.self.view_is in
    let w = take-flight _ _ _ _ _ _ _ _ _ c.args.i c.index-command.result.now c.self.invariant.0 c.self.view_is (omega (arith, s)) c.index-command.ensures c.remove-gone.ensures.items c.begin_earlier.ensures.items c.take_out.ensures.items c.take_out-2.ensures.items in
    w.commands

pub returns-clause-bios : goal.returns-clause-bios
returns-clause-bios c =
    let s = sizes _ _ _ _ _ c.self.invariant.0 c.self.view_is in
    let t = stands _ _ _ _ _ c.args.i c.index-command.result.now c.self.invariant.0 c.self.view_is (omega (arith, s)) c.index-command.ensures in
    c.take_out.ensures.into ∙ ap (λ (z : Command). c.args.bios.now.items ++ z.bios) (sym t.command)

pub returns-clause-fates : goal.returns-clause-fates
returns-clause-fates c =
    let s = sizes _ _ _ _ _ c.self.invariant.0 c.self.view_is in
    let t = stands _ _ _ _ _ c.args.i c.index-command.result.now c.self.invariant.0 c.self.view_is (omega (arith, s)) c.index-command.ensures in
    c.take_out-2.ensures.into ∙ ap (λ (z : Command). c.args.fates.now.items ++ z.fates) (sym t.command)
