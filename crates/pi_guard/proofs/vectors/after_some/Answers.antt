use Rattle.std.proofs.Common.{◌≡◌, ◌++◌, take, sym, ap, ◌∙◌, take-append-drop}
use Rattle.pi_guard.specs.Register.{register}
use Rattle.pi_guard.proofs.RegisterLemmas.{register-append}
use Rattle.pi_guard.proofs.vectors.after_some.Goals as goal

pub returns : goal.returns
returns c =
    let xs = c.args.part.now in
    let first = c.in-Some.b.now in
    let more = c.in-Some.more.now in
    let whole : first ++ more ≡ xs =
    ap (λ v. v ++ more) c.in-Some.ensures.cases.0 ∙ ap (λ v. take 32 xs ++ v) c.in-Some.ensures.cases.1 ∙ take-append-drop 32 xs in
    c.after_bytes-2.ensures
    ∙ ap (λ v. register v more) c.after_thirty_two.ensures
    ∙ sym (register-append c.args.start first more)
    ∙ ap (register c.args.start) whole
