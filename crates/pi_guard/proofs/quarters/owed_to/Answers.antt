use Rattle.std.proofs.Common.{◌≡◌, ◌++◌, take, refl, sym, ap, ◌∙◌, arith, length-append}
use Rattle.std.specs.Prelude.{bit_xor}
use Rattle.std.proofs.Math.Seq.{take-length}
use Rattle.std.proofs.lemmas.List.{take_at, drop_at}
use lib.Lanes.{zip2, chunk}
use Rattle.pi_guard.specs.Broad.{aligned_by}
use Rattle.pi_guard.proofs.Alignments.{aligned}
use Rattle.pi_guard.proofs.quarters.owed_to.Goals as goal

pub returns : goal.returns
returns c =
    let x = c.args in
    let early = x.a ++ x.b in
    let late = x.b ++ x.c in
    let behind : x.c ≡ chunk 32 32 late = sym (ap (take 32) (drop_at x.b x.c 32 c.fits-b.0) ∙ ap (λ n. take n x.c) (sym c.fits-c.0) ∙ take-length x.c) in
    let near = c.by_eight.ensures ∙ ap (λ v. aligned_by 8 8 (v ++ x.c)) c.half_on.ensures
    ∙ aligned 16 8 8 late (chunk 16 32 late) x.c refl (omega (arith, length-append x.b x.c, c.fits-b.0, c.fits-c.0)) refl behind in
    let far = c.by_two.ensures ∙ ap (λ v. aligned_by 2 14 (x.a ++ v)) c.half_on-middle.ensures
    ∙ aligned 0 2 14 early x.a (chunk 16 32 early) refl (omega (arith, length-append x.a x.b, c.fits-a.0, c.fits-b.0)) (sym (take_at x.a x.b 32 c.fits-a.0)) refl in
    ap (λ v. zip2 bit_xor v (zip2 bit_xor c.half_on-middle.result c.by_two.result)) near
    ∙ ap (λ v. zip2 bit_xor (chunk 24 32 late) (zip2 bit_xor v c.by_two.result)) c.half_on-middle.ensures
    ∙ ap (λ v. zip2 bit_xor (chunk 24 32 late) (zip2 bit_xor (chunk 16 32 early) v)) far
