use Rattle.std.proofs.Common.{rules, ◌≡◌, ◌+◌, ◌-◌, ap, ◌∙◌, arith, drop, length, take}
use Rattle.stack_steps.proofs.Closed.{closed}
use Rattle.stack_steps.proofs.live.close.Goals as goal

pub returns-clause-items : goal.returns-clause-items
returns-clause-items c =
    let e : c.args.first + c.args.q + 1 - c.args.first ≡ c.args.q + 1 = omega arith in
    let long : c.args.list.now.len ≡ length c.args.list.now.items = search rules in
    closed c.args.list.now.items c.slice_mut.result.now c.rotate_right.new.self c.args.first c.args.q c.args.list.now.len c.requires long
    (c.slice_mut.ensures.value ∙ ap (λ n. take n (drop c.args.first c.args.list.now.items)) e)
    c.rotate_right.ensures.after
