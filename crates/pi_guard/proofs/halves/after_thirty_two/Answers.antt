use Rattle.std.proofs.Common.{◌≡◌, ◌++◌, length, take, sym, ap, ◌∙◌, arith, take-add}
use Rattle.std.proofs.Math.Seq.{take-length}
use Rattle.std.proofs.lemmas.Simd.{length-chunk}
use lib.Lanes.{chunk}
use Rattle.pi_guard.specs.Register.{register}
use Rattle.pi_guard.proofs.halves.after_thirty_two.Goals as goal

pub returns : goal.returns
returns c =
    let xs = c.args.bytes.now in
    let last = chunk 16 16 xs in
    let long : length last ≡ 16 = length-chunk 16 16 xs (omega (arith, c.told-bytes)) in
    let same : take 16 last ≡ last = ap (λ n. take n last) (sym long) ∙ take-length last in
    let whole : take 16 xs ++ last ≡ xs = sym (take-add 16 16 xs) ∙ ap (λ n. take n xs) (sym c.told-bytes) ∙ take-length xs in
    c.register_of_two.ensures ∙ c.with_register-first.ensures (take 16 last)
    ∙ ap (λ v. register c.args.start (take 16 xs ++ v)) same ∙ ap (register c.args.start) whole
