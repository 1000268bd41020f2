use Rattle.std.proofs.Common.{◌++◌, refl, sym, ap, ◌∙◌, arith, length-append}
use Rattle.std.proofs.lemmas.List.{take_at}
use lib.Lanes.{chunk}
use Rattle.pi_guard.specs.Broad.{aligned_by}
use Rattle.pi_guard.proofs.Alignments.{aligned}
use Rattle.pi_guard.proofs.broad.far_on.Goals as goal

pub returns : goal.returns
returns c =
    let a = c.args.a in
    let b = c.args.b in
    c.by_four.ensures
    ∙ ap (λ v. aligned_by 4 12 (a ++ v)) c.half_on.ensures
    ∙ aligned 0 4 12 (a ++ b) a (chunk 16 32 (a ++ b)) refl (omega (arith, length-append a b, c.fits-a.0, c.fits-b.0)) (sym (take_at a b 32 c.fits-a.0)) refl
