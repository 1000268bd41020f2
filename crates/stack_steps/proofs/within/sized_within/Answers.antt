use Rattle.std.proofs.Common.{◌*◌, arith, ◌∙◌, refl}
use Rattle.stack_steps.proofs.Reach.{sized, no_bytes}
use Rattle.stack_steps.proofs.within.sized_within.Goals as goal

pub returns-then-size-eq0 : goal.returns-then-size-eq0
returns-then-size-eq0 c n few =
    let e = no_bytes c.args.list.now (c.args.k * c.args.size) c.args.size n c.if-size-eq0.true in
    ((λ _. omega arith), (λ _. few))

pub returns : goal.returns
returns c n few =
    let e = c.as_slice-segs.ensures.value in
    sized c.args.list.now c.args.k c.args.size c.args.left c.args.most c.bytes_within.result n c.requires (omega (arith, c.if-size-eq0.false)) (c.bytes_within.ensures ∙ rw e refl) few
