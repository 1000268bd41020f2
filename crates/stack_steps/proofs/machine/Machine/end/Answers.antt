use Rattle.std.proofs.Common.{◌≡◌, ◌+◌, ◌-◌, refl, ap, ◌∙◌, get_or, set, arith}
use Rattle.std.proofs.lemmas.List.{get_or_default}
use Rattle.range_gate.specs.declared.phase.Phase.TheVariants.{Ended}
use Rattle.stack_steps.specs.Shows.{op_of}
use Rattle.stack_steps.proofs.Keep.{listed-there, may-end, of-op, shows-end}
use Rattle.stack_steps.proofs.machine.Machine.end.Goals as goal

pub returns-clause-op : goal.returns-clause-op
returns-clause-op c = λ plan fine v t h m. ap op_of m.1 ∙ of-op plan c.args.self.now.gate c.args.self.now.ops.items c.args.self.now.live.items c.args.self.now.queues.items c.args.self.now.flight c.args.self.now.steps v c.args.q c.at-op.result fine h.shows m.0 c.at-op.ensures

pub returns-clause-step : goal.returns-clause-step
returns-clause-step c = λ plan cut fine v t h can m.
    let live = c.args.self.now.live.items in
    let l = listed-there plan c.args.self.now.gate c.args.self.now.ops.items live c.args.self.now.queues.items c.args.self.now.flight c.args.self.now.steps v c.args.q fine h.shows m.0 in
    let i : c.at-op.result ≡ get_or live c.args.q 0 = c.at-op.ensures ∙ get_or_default live c.args.q c.at-op.result 0 l.place in
    let j : c.at-op.result + 1 - 1 ≡ get_or live c.args.q 0 = omega (arith, i) in
    record {
      shows = shows-end plan c.args.self.now.gate c.end.new.self c.args.self.now.ops.items live c.remove.new.self.items c.args.self.now.queues.items c.args.self.now.flight c.args.self.now.steps (c.args.self.now.steps + 1) v c.args.q t cut
          fine h.shows can m (c.end.ensures.phases ∙ ap (λ z. set c.args.self.now.gate.phases z Ended) j) c.end.ensures.conflicts c.remove.ensures refl;
      room = h.room;
    }
