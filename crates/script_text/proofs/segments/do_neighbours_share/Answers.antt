use Rattle.std.proofs.Common.{sym, ◌∙◌, arith}
use Rattle.script_text.proofs.Sharing.{one_alone, step}
use Rattle.script_text.proofs.segments.do_neighbours_share.Goals as goal

pub loop-rest-preserved : goal.loop-rest-preserved
loop-rest-preserved c =
    let s = step c.loop-rest.rest.now c.split_at.result.1.now _ _ c.in-len2-up.len_at_least c.loop-rest.invariant.rises (sym c.shares.ensures.value ∙ c.if-shares.false) c.split_at.ensures.back in
    record { rises = s.rises; share = s.share ∙ c.loop-rest.invariant.share }

pub returns : goal.returns
returns c = let n = c.in_default.len_below in sym (one_alone c.loop-rest.rest.now (omega (arith, n))) ∙ c.loop-rest.invariant.share
