use Rattle.std.proofs.Common.{arith, ap, sym, ◌∙◌, ◌++◌, ◌∷◌, [], length, take, map}
use Rattle.std.proofs.lemmas.List.{length-append}
use Rattle.stack_laws.specs.View.{waiting}
use Rattle.stack_steps.specs.declared.state.OpState.{OpState}
use Rattle.stack_steps.specs.State.{state_of}
use Rattle.stack_steps.proofs.Begin.{states-more}
use Rattle.stack_steps.proofs.start.new_ops.Goals as goal

pub loop-i-preserved : goal.loop-i-preserved
loop-i-preserved g c =
    let l = ap length c.push_reserved.ensures.items in
    let o : OpState = record { cut = 0; left = c.io.result.now.count } in
    let a = length-append c.loop-i.ops.items (record { cut = 0; left = c.io.result.now.count } ∷ []) in
    record {
      items = c.push_reserved.ensures.items ∙ ap (λ w. w ++ record { cut = 0; left = c.io.result.now.count } ∷ []) c.loop-i.invariant.items
          ∙ ap (λ n. map state_of (map waiting (take c.loop-i.i (g.P.Requests.plan c.args.plan.now).requests)) ++ record { cut = 0; left = n } ∷ []) c.io.ensures.count
          ∙ sym (states-more (g.P.Requests.plan c.args.plan.now).requests c.loop-i.i (omega (arith, c.ops-n.ensures)));
      number = omega (arith, l, a, c.loop-i.invariant.number);
      room = omega (arith, c.push_reserved.ensures.capacity, c.loop-i.invariant.room);
    }
