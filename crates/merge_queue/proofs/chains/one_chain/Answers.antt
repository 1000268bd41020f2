use Rattle.std.proofs.Common.{◌∷◌, [], ◌++◌, ◌+◌, ◌≡◌, ap, sym, ◌∙◌, arith, length}
use Rattle.merge_queue.specs.Groups.{numbers}
use Rattle.merge_queue.proofs.Linking.{numbers-more, length-numbers}
use Rattle.merge_queue.proofs.chains.one_chain.Goals as goal

pub push_reserved-requires : goal.push_reserved-requires
push_reserved-requires c =
    let a = ap length c.loop-place.invariant.items in
    let b = length-numbers 1 c.loop-place.place in
    omega (arith, c.loop-place.invariant.room, c.loop-place-test.true)

pub loop-place-preserved : goal.loop-place-preserved
loop-place-preserved c =
    let e : c.loop-place.place + 1 ≡ 1 + c.loop-place.place = omega arith in
    record {
      items = c.push_reserved.ensures.items ∙ ap (λ z. z ++ ((c.loop-place.place + 1) ∷ [])) c.loop-place.invariant.items ∙ ap (λ n. numbers 1 c.loop-place.place ++ (n ∷ [])) e ∙ sym (numbers-more 1 c.loop-place.place);
      room = omega (arith, c.push_reserved.ensures.capacity, c.loop-place.invariant.room);
    }
