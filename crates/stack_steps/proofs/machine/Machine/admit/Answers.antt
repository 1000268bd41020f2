use Rattle.std.proofs.Common.{◌≡◌, ◌+◌, ◌-◌, true, false, eqb, refl, ap, sym, ◌∙◌, get_or, set, arith}
use Rattle.std.specs.Prelude.{if◌then◌else◌}
use Rattle.std.specs.List.{remove}
use Rattle.std.proofs.lemmas.Bool.{eq-eqb, ne_eqb}
use Rattle.std.proofs.lemmas.List.{get_or_default, set-set}
use Rattle.range_gate.specs.Gates.{may_admit}
use Rattle.range_gate.specs.declared.phase.Phase.TheVariants.{Admitted, Ended}
use Rattle.stack_laws.specs.Plan.{request_at}
use Rattle.stack_steps.specs.Shows.{op_of}
use Rattle.stack_steps.proofs.Keep.{listed-there, may-enter, of-op, shows-admit}
use Rattle.stack_steps.proofs.machine.Machine.admit.Goals.{then-io-eq0, else-io-eq0}
use Rattle.stack_steps.proofs.machine.Machine.admit.Goals as goal

pub admit-requires-clause-may : goal.admit-requires-clause-may
admit-requires-clause-may g c =
    let p = g.P.Requests.plan c.args.plan.now in
    let s = c.args.self.now in
    let r = c.requires in
    let l = listed-there p s.gate s.ops.items s.live.items s.queues.items s.flight s.steps r.view c.args.q (g.met.P.Requests.fine c.args.plan.now) r.holds.shows r.means.0 in
    let i : c.at-op.result ≡ get_or s.live.items c.args.q 0 = c.at-op.ensures ∙ get_or_default s.live.items c.args.q c.at-op.result 0 l.place in
    let j : c.at-op.result + 1 - 1 ≡ get_or s.live.items c.args.q 0 = omega (arith, i) in
    ap (may_admit s.gate) j ∙ may-enter p s.gate s.ops.items s.live.items s.queues.items s.flight s.steps r.view c.args.q r.step r.holds.shows r.can r.means

pub returns-clause-op : goal.returns-clause-op
returns-clause-op g c = λ v t h m. ap op_of m.1 ∙ of-op (g.P.Requests.plan c.args.plan.now) c.args.self.now.gate c.args.self.now.ops.items c.args.self.now.live.items c.args.self.now.queues.items c.args.self.now.flight c.args.self.now.steps v c.args.q c.at-op.result (g.met.P.Requests.fine c.args.plan.now) h.shows m.0 c.at-op.ensures

pub returns-clause-step : goal.returns-clause-step
returns-clause-step g c = λ cut v t h can m.
    let p = g.P.Requests.plan c.args.plan.now in
    let fine = g.met.P.Requests.fine c.args.plan.now in
    let s = c.args.self.now in
    let live = s.live.items in
    let l = listed-there p s.gate s.ops.items live s.queues.items s.flight s.steps v c.args.q fine h.shows m.0 in
    let op = get_or live c.args.q 0 in
    let i : c.at-op.result ≡ op = c.at-op.ensures ∙ get_or_default live c.args.q c.at-op.result 0 l.place in
    let j : c.at-op.result + 1 - 1 ≡ op = omega (arith, i) in
    let count : (request_at p op).count ≡ c.io.result.now.count = ap (λ z. (request_at p z).count) (sym i) ∙ sym c.io.ensures.count in
    let entered = c.admit.ensures.phases ∙ ap (λ z. set s.gate.phases z Admitted) j in
    elim c.if-io-eq0.branch [
      | then-io-eq0 w ↦
          let none : eqb (request_at p op).count 0 ≡ true = eq-eqb (request_at p op).count 0 (count ∙ w.if-io-eq0.true) in
          rw w.self-is (record {
            shows = shows-admit p s.gate w.end.new.self s.ops.items live w.remove.new.self.items s.queues.items s.flight s.steps (s.steps + 1) v c.args.q t cut fine h.shows can m
                (w.end.ensures.phases ∙ ap (λ z. set c.admit.new.self.phases z Ended) j ∙ ap (λ z. set z op Ended) entered ∙ set-set s.gate.phases op Admitted Ended
                ∙ ap (λ b. set s.gate.phases op (if b then Ended else Admitted)) (sym none))
                (w.end.ensures.conflicts ∙ c.admit.ensures.conflicts) (w.remove.ensures ∙ ap (λ b. if b then remove live c.args.q else live) (sym none)) refl;
            room = h.room;
          })
      | else-io-eq0 w ↦
          let some : eqb (request_at p op).count 0 ≡ false = ne_eqb (request_at p op).count 0 (λ e. w.if-io-eq0.false (sym count ∙ e)) in
          rw w.self-is (record {
            shows = shows-admit p s.gate c.admit.new.self s.ops.items live live s.queues.items s.flight s.steps (s.steps + 1) v c.args.q t cut fine h.shows can m
                (entered ∙ ap (λ b. set s.gate.phases op (if b then Ended else Admitted)) (sym some)) c.admit.ensures.conflicts (ap (λ b. if b then remove live c.args.q else live) (sym some)) refl;
            room = h.room;
          })
    ]
