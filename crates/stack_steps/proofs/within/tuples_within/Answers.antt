use Rattle.std.proofs.Common.{arith}
use Rattle.stack_steps.proofs.Reach.{tuples}
use Rattle.stack_steps.proofs.within.tuples_within.Goals as goal

pub returns-in-Some : goal.returns-in-Some
returns-in-Some c n few =
    let e = tuples c.in-Some.pi c.args.k n in
    let h = c.sized_within.ensures n few in
    rw c.in-Some.is ((λ a. let b = h.0 a in omega arith), (λ a. h.1 (omega arith)))
