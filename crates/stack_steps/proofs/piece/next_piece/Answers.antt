use Rattle.std.proofs.Common.{arith}
use Rattle.stack_laws.proofs.Keeps.{piece-some, piece-within, cut-some, cut-within}
use Rattle.stack_steps.proofs.piece.next_piece.Goals as goal

pub cut_down-n-requires : goal.cut_down-n-requires
cut_down-n-requires g c = let one = piece-some (g.P.Requests.plan c.args.plan.now) c.args.op c.args.k in omega (arith, c.greatest_of-most.ensures)

pub of-requires-clause-some : goal.of-requires-clause-some
of-requires-clause-some g c =
    let one = piece-some (g.P.Requests.plan c.args.plan.now) c.args.op c.args.k in
    let low = cut-some c.args.cut c.greatest_of-most.result (omega (arith, c.greatest_of-most.ensures)) in
    omega (arith, c.cut_down-n.ensures)

pub of-requires-clause-within : goal.of-requires-clause-within
of-requires-clause-within g c =
    let one = piece-some (g.P.Requests.plan c.args.plan.now) c.args.op c.args.k in
    let most = piece-within (g.P.Requests.plan c.args.plan.now) c.args.op c.args.k c.requires.more in
    let high = cut-within c.args.cut c.greatest_of-most.result (omega (arith, c.greatest_of-most.ensures)) in
    omega (arith, c.greatest_of-most.ensures, c.cut_down-n.ensures, c.io.ensures.count)
