use Rattle.std.proofs.Common.{arith, ap, sym, ◌∙◌, ◌++◌, ◌∷◌, [], length, ◌+◌, ◌≡◌}
use Rattle.std.proofs.lemmas.List.{length-append}
use Rattle.merge_queue.specs.Groups.{numbers}
use Rattle.stack_steps.proofs.Begin.{numbers-last}
use Rattle.stack_steps.proofs.start.new_live.Goals as goal

pub loop-i-preserved : goal.loop-i-preserved
loop-i-preserved c =
    let z : 0 + c.loop-i.i ≡ c.loop-i.i = omega arith in
    let l = ap length c.push_reserved.ensures.items in
    let a = length-append c.loop-i.live.items (c.loop-i.i ∷ []) in
    record {
      items = c.push_reserved.ensures.items ∙ ap (λ w. w ++ c.loop-i.i ∷ []) c.loop-i.invariant.items ∙ ap (λ n. numbers 0 c.loop-i.i ++ n ∷ []) (sym z) ∙ sym (numbers-last 0 c.loop-i.i);
      number = omega (arith, l, a, c.loop-i.invariant.number);
      room = omega (arith, c.push_reserved.ensures.capacity, c.loop-i.invariant.room);
    }
