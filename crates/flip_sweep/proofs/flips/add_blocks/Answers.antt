use Rattle.std.proofs.Common.{◌+◌, ◌-◌, ◌++◌, ap, ◌∙◌, append_assoc}
use Rattle.flip_sweep.specs.Flips.{sites_on}
use Rattle.flip_sweep.proofs.Siting.{block_more}
use Rattle.flip_sweep.proofs.flips.add_blocks.Goals as goal

pub loop-k-preserved : goal.loop-k-preserved
loop-k-preserved c =
    let op = c.args.op in
    let k = c.loop-k.k in
    let rest = sites_on op (k + 1) (c.args.count - (k + 1)) in
    ap (λ xs. xs ++ rest) c.in_ok-add_block.ensures
    ∙ append_assoc c.loop-k.sites.items (sites_on op k 1) rest
    ∙ ap (λ ys. c.loop-k.sites.items ++ ys) (block_more op k c.args.count c.loop-k-test.true)
    ∙ c.loop-k.invariant
