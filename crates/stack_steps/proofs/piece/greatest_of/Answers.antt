use Rattle.std.proofs.Common.{ℕ, ◌∙◌, ap, sym, max}
use Rattle.bio_core.specs.Bios.{data_segs, tuple_segs}
use Rattle.stack_laws.specs.Pieces.{fits, greatest}
use Rattle.stack_steps.proofs.Reach.{greatest-piece}
use Rattle.stack_steps.proofs.piece.greatest_of.Goals as goal

pub returns : goal.returns
returns g c =
    let p = g.P.Requests.plan c.args.plan.now in
    let e = c.longest_piece-most.ensures in
    let n = greatest-piece p c.args.op c.args.k c.longest_piece-most.result c.blocks_within.result (data_segs c.io.result.now) (tuple_segs c.io.result.now.pi)
    c.io.ensures.segs c.io.ensures.pi_segs (rw (sym c.limits-lim.ensures) c.blocks_within.ensures) in
    c.max.ensures ∙ (ap (λ (m : ℕ). max m 1) c.min.ensures ∙ (sym n ∙ ap (greatest (fits p c.args.op c.args.k)) e))
